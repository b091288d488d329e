-- The walk from event to event follows the schedule.
--
-- At each event the walk knows what is left to each job of its need, and the finish of each job that has ended (`Along`). A job that waits by what
-- is left is one that waits by the definition, so the job that is chosen is the one that runs; up to the next ready time it runs on until it ends
-- (run_jump), and an idle processor stays idle (idle_jump). Each event ends a job or makes one ready: so there are at most 2n of them (turns_at_most).
--
-- In order: what the walk knows; the start; the next ready time; an idle event; a job runs. Assumes nothing.
use Prim.Native.Nat.{ℕ, zero, suc, ◌+◌, ◌*◌, ◌-◌, ◌≤◌, ◌<◌}
use native.Mathlib.Nat.{add-sub_of_le}
use native.Mathlib.Omega.{arith}
use mathlib.Core.Path.{◌≡◌, refl, sym, ap, ◌∙◌}
use mathlib.Core.Bool.{Bool, true, false, ◌&&◌, true≢false}
use mathlib.Core.List.{List}
use lib.ListN.{length, get_or, set, take, length-set}
use lib.Seq.{get_or-set_same, get_or-set_other}
use lib.Dec.{leb, ltb, eqb}
use borrow.Author.Tests.{ltb-true, ltb-false, lt-ltb, le-ltb, eqb-true, eqb-false}
use Rattle.std.specs.Prelude.{Option, Some, None, find}
use Rattle.std.specs.List.{All}
use Rattle.std.proofs.lemmas.List.{length-take-le, get_or-take}
use Rattle.jobs.specs.Below.{count}
use Rattle.jobs.specs.Table.{jobs, ready}
use Rattle.jobs.specs.Arrays.{Holds}
use Rattle.jobs.specs.Orders.{the_job}
use Rattle.jobs.specs.declared.Job.{Job}
use Rattle.jobs.proofs.Below.{by_cases, none_at, count-le, count_less, count_at_most}
use Rattle.jobs.proofs.Refusals.{Good}
use Rattle.frame.specs.Latest.{AtMost}
use Rattle.frame.specs.Schedule.{need, waits, runs, had, finish}
use Rattle.frame.proofs.Foremost.{Foremost, foremost_is, is_foremost}
use Rattle.frame.proofs.Slots.{waits_at, runs_at, waits_is, is_waiting, had_unready}
use Rattle.frame.proofs.Finish.{met-finish}
use Rattle.frame.proofs.Bounds.{need_positive, finish_at_most, finish_no_sooner}
use Rattle.schedule.specs.Asks.{fill}
use Rattle.schedule.specs.Events.{never, ComesNext, NoneBetween, waiting, Fits, sooner, Ran}
use Rattle.schedule.proofs.Jumps.{Quiet, Ran as Jumped, run_jump, idle_jump}
use Rattle.schedule.proofs.Fill.{written-fill}
use Rattle.schedule.proofs.Sorted.{sorted, sorted_below, most_urgent, none_chosen}

-- ---- what the walk knows

-- At this time: what is left to each job of its need, and in the buffer the finish of each job that has ended; the words past the jobs are as before.
pub record Along (table pattern before : List ℕ) (time : ℕ) (left finishes : List ℕ) : Type 0 where
  pub all : length left ≡ 64
  pub long : length finishes ≡ length before
  pub owed : (job : ℕ) → job < jobs table → get_or left job 0 ≡ need table pattern job - had table pattern time job
  pub ended : (job : ℕ) → job < jobs table → get_or left job 0 ≡ 0 → get_or finishes job 0 ≡ finish table pattern job
  pub others : (i : ℕ) → jobs table ≤ i → get_or finishes i 0 ≡ get_or before i 0

-- The events that can still come, at most 2n: each job that has something left can end, and each that is not ready can become ready.
unfoldable pub turns : List ℕ → ℕ → List ℕ → ℕ
turns table time left =
    count (jobs table) (λ job. ltb 0 (get_or left job 0)) + count (jobs table) (λ job. ltb time (ready table job))

pub turns_at_most : (table : List ℕ) (time : ℕ) (left : List ℕ) → turns table time left ≤ 2 * jobs table
unfolding turns
turns_at_most table time left =
    omega (arith, count_at_most (jobs table) (λ job. ltb 0 (get_or left job 0)), count_at_most (jobs table) (λ job. ltb time (ready table job)))

-- What holds when the events begin: a good table of n jobs, a pattern that is accepted, room in the buffer, the jobs by urgency, and the ready
-- times in an array.
pub record Begun (table pattern before : List ℕ) (n : ℕ) (order : List Job) (times : List ℕ) : Type 0 where
  pub good : Good table
  pub counts : AtMost (jobs table) 8 pattern
  pub room : jobs table ≤ length before
  pub all_jobs : n ≡ jobs table
  pub order_is : order ≡ sorted table
  pub times_are : Holds 64 times (jobs table) (ready table)

module _ {table pattern before : List ℕ} {n : ℕ} {order : List Job} {times : List ℕ} (begun : Begun table pattern before n order times) where
  -- ---- the start

  pub along_first : (left : List ℕ) → Holds 64 left (jobs table) (need table pattern) → Along table pattern before 0 left before
  along_first left needs =
      record {
        all = needs.long;
        long = refl;
        owed = λ job l. omega (arith, needs.each job l, had_unready table pattern 0 job (omega arith));
        ended = λ job l e. absurd (omega (arith, needs.each job l, need_positive table pattern begun.good 8 (omega arith) begun.counts job l));
        others = λ i h. refl;
      }

  module _ {time : ℕ} {left finishes : List ℕ} (along : Along table pattern before time left finishes) where
    -- the ready times as the walk reads them
    abbrev readied : List ℕ
    readied = take n times

    -- whether a job waits, by what is left
    abbrev is_waiting_now : ℕ → Bool
    is_waiting_now i = waiting times left time (the_job i)

    ready_at : (i : ℕ) → i < jobs table → get_or readied i 0 ≡ ready table i
    ready_at i l = get_or-take n times i 0 (omega (arith, begun.all_jobs)) ∙ begun.times_are.each i l

    readied_long : length readied ≡ jobs table
    readied_long = length-take-le n times (omega (arith, begun.all_jobs, begun.good.few_jobs, begun.times_are.long)) ∙ begun.all_jobs

    -- each of the jobs sorted by urgency has a place in both arrays
    pub places : All (λ (job : Job). (job.0 < length times) × (job.0 < length left)) order
    places r d l =
        let below = rw (← begun.order_is) at (sorted_below table begun.good.few_jobs r d (rw begun.order_is at l)) in
        (omega (arith, below, begun.good.few_jobs, begun.times_are.long), omega (arith, below, begun.good.few_jobs, along.all))

    -- what waits by what is left waits by the definition
    waits-left : (job : ℕ) → job < jobs table → is_waiting_now job ≡ waits_at table pattern time job
    unfolding waits
    waits-left job l =
        rw (begun.times_are.each job l)
        (ap (λ b. leb (ready table job) time && b)
        (by_cases (ltb (had table pattern time job) (need table pattern job))
        (λ e. lt-ltb 0 (get_or left job 0) (omega (arith, along.owed job l, ltb-true (had table pattern time job) (need table pattern job) e)) ∙ sym e)
        (λ e. le-ltb 0 (get_or left job 0) (omega (arith, along.owed job l, ltb-false (had table pattern time job) (need table pattern job) e)) ∙ sym e)))

    -- ---- the next ready time

    quiet : (u : ℕ) → NoneBetween readied time u → Quiet table pattern time u
    quiet u none i l a =
        omega (arith, ready_at i l, none.later i (omega (arith, readied_long)) (omega (arith, ready_at i l)))

    -- the jobs not yet ready are no more later on, and fewer when one becomes ready
    unready_le : (u : ℕ) → time ≤ u
        → count (jobs table) (λ job. ltb u (ready table job)) ≤ count (jobs table) (λ job. ltb time (ready table job))
    unready_le u h =
        count-le (jobs table) (λ job. ltb u (ready table job)) (λ job. ltb time (ready table job))
        (λ job l e. lt-ltb time (ready table job) (omega (arith, ltb-true u (ready table job) e)))

    unready_less : (u : ℕ) → time < u → (i : ℕ) × (i < length readied) × (get_or readied i 0 ≡ u)
        → count (jobs table) (λ job. ltb u (ready table job)) < count (jobs table) (λ job. ltb time (ready table job))
    unready_less u later comes =
        let l : comes.0 < jobs table = omega (arith, comes.1, readied_long) in
        let at : ready table comes.0 ≡ u = sym (ready_at comes.0 l) ∙ comes.2 in
        count_less (jobs table) (λ job. ltb u (ready table job)) (λ job. ltb time (ready table job)) comes.0 l
        (le-ltb u (ready table comes.0) (omega arith))
        (lt-ltb time (ready table comes.0) (omega arith))
        (λ job l e. lt-ltb time (ready table job) (omega (arith, ltb-true u (ready table job) e)))

    -- ---- an idle event

    module _ (idle : None ≡ find (waiting times left time) order) where
      none_waits : (i : ℕ) → i < jobs table → waits_at table pattern time i ≡ false
      none_waits i l =
          sym (waits-left i l) ∙ none_at (jobs table) is_waiting_now (none_chosen table begun.good.few_jobs (waiting times left time) (rw begun.order_is at idle)) i l

      pub along_idle : {next : ℕ} → ComesNext readied time (Some next) → Along table pattern before next left finishes
      along_idle {next} comes =
          record {
            all = along.all;
            long = along.long;
            owed = λ job l. omega (arith, along.owed job l, stays job l);
            ended = along.ended;
            others = along.others;
          }
        where
          same : time + (next - time) ≡ next
          same = add-sub_of_le (omega (arith, comes.after))

          stays : (job : ℕ) → job < jobs table → had table pattern next job ≡ had table pattern time job
          stays job l =
              ap (λ u. had table pattern u job) (sym same)
              ∙ idle_jump table pattern time none_waits (next - time) (λ i k a. omega (arith, same, quiet next comes.none_between i k a)) job l

      pub turns-idle : {next : ℕ} → ComesNext readied time (Some next) → turns table next left < turns table time left
      unfolding turns
      turns-idle {next} comes = omega (arith, unready_less next comes.after comes.comes)

      -- with nothing to come, nothing is left
      nothing_left : ComesNext readied time None → (job : ℕ) → job < jobs table → get_or left job 0 ≡ 0
      nothing_left comes job l =
          by_cases (ltb (had table pattern time job) (need table pattern job))
          (λ e.
          by_cases (ltb time (ready table job))
          (λ a. absurd (omega (arith, quiet never comes job l (ltb-true time (ready table job) a), begun.good.ready_at_most job l)))
          (λ a. absurd (true≢false (sym (is_waiting table pattern time job (ltb-false _ _ a) (ltb-true _ _ e)) ∙ none_waits job l))))
          (λ e. omega (arith, along.owed job l, ltb-false (had table pattern time job) (need table pattern job) e))

      pub all_written : ComesNext readied time None → finishes ≡ fill (jobs table) (finish table pattern) before
      all_written comes =
          written-fill (finish table pattern) before (jobs table) finishes begun.room
          (record {
            long = along.long;
            results = λ i l. along.ended i l (nothing_left comes i l);
            others = along.others;
          })

    -- ---- a job runs

    module _ {chosen : Job} (picked : Some chosen ≡ find (waiting times left time) order) where
      abbrev job : ℕ
      job = chosen.0

      most : Foremost table is_waiting_now job
      most = foremost_is table is_waiting_now job (most_urgent table begun.good.few_jobs (waiting times left time) chosen (rw begun.order_is at picked))

      is_job : job < jobs table
      is_job = most.is_job

      waits_now : waits_at table pattern time job ≡ true
      waits_now = sym (waits-left job is_job) ∙ most.has

      -- the chosen job is the one that runs
      runs_now : runs_at table pattern time job ≡ true
      unfolding runs
      runs_now =
          is_foremost table (waits_at table pattern time) job
          (record { is_job = is_job; has = waits_now; best = λ other l w. most.best other l (waits-left other l ∙ w) })

      unmet : had table pattern time job < need table pattern job
      unmet = (waits_is table pattern time job waits_now).1

      has_left : 0 < get_or left job 0
      has_left = omega (arith, along.owed job is_job, unmet)

      in_left : job < length left
      in_left = omega (arith, is_job, begun.good.few_jobs, along.all)

      in_finishes : job < length finishes
      in_finishes = omega (arith, is_job, begun.room, along.long)

      pub fits_run : Fits job time left finishes
      fits_run =
          record {
            owed = in_left;
            room = in_finishes;
            ends =
                omega (
                  arith,
                  along.owed job is_job,
                  finish_no_sooner table pattern begun.good 8 (omega arith) begun.counts time job is_job unmet,
                  finish_at_most table pattern begun.good 8 (omega arith) begun.counts job is_job,
                );
          }

      -- it runs d slots
      module _ (d : ℕ) (within : d ≤ get_or left job 0) (no-later : Quiet table pattern time (time + d)) where
        jumped : Jumped table pattern time job runs_now d
        jumped = run_jump table pattern time job runs_now d no-later (omega (arith, along.owed job is_job, unmet))

        owed-after : (i : ℕ) → i < jobs table → get_or (set left job (get_or left job 0 - d)) i 0 ≡ need table pattern i - had table pattern (time + d) i
        owed-after i l =
            by_cases (eqb i job)
            (λ e.
            rw (eqb-true i job e, get_or-set_same left job (get_or left job 0 - d) 0 in_left)
            (omega (arith, jumped.own, along.owed job is_job)))
            (λ e.
            rw (get_or-set_other left job i (get_or left job 0 - d) 0 (eqb-false i job e))
            (omega (arith, jumped.others i (eqb-false i job e), along.owed i l)))

        -- its finish, where it ends
        finish_then : get_or left job 0 ≡ d → finish table pattern job ≡ time + d
        finish_then q = at d refl
          where
            at : (x : ℕ) → d ≡ x → finish table pattern job ≡ time + d
            at zero e = absurd (omega (arith, has_left))
            at (suc x) e =
                let slot : time + d ≡ suc (time + x) = omega arith in
                met-finish table pattern job is_job (time + x)
                (record {
                  runs = jumped.last x e;
                  full = omega (arith, ap (λ u. had table pattern u job) slot, jumped.own, along.owed job is_job, unmet);
                })
                ∙ sym slot

        along_after : (after : List ℕ) → length after ≡ length before → (get_or left job 0 ≡ d → get_or after job 0 ≡ time + d)
            → ((i : ℕ) → (i ≡ job → ⊥) → get_or after i 0 ≡ get_or finishes i 0) → Along table pattern before (time + d) (set left job (get_or left job 0 - d)) after
        along_after after long own same =
            record {
              all = simp length-set along.all;
              long = long;
              owed = owed-after;
              ended =
                  λ i l e.
                  by_cases (eqb i job)
                  (λ q.
                  let here : get_or (set left job (get_or left job 0 - d)) job 0 ≡ 0 = rw (eqb-true i job q) at e in
                  let done : get_or left job 0 ≡ d = omega (arith, here, get_or-set_same left job (get_or left job 0 - d) 0 in_left) in
                  rw (eqb-true i job q) (own done ∙ sym (finish_then done)))
                  (λ q.
                  same i (eqb-false i job q)
                  ∙ along.ended i l (sym (get_or-set_other left job i (get_or left job 0 - d) 0 (eqb-false i job q)) ∙ e));
              others = λ i h. same i (λ q. omega (arith, is_job)) ∙ along.others i h;
            }

      -- what has something left after it had something left before
      left_le : (x : ℕ) (i : ℕ) → ltb 0 (get_or (set left job x) i 0) ≡ true → ltb 0 (get_or left i 0) ≡ true
      left_le x i e =
          by_cases (eqb i job)
          (λ q. rw (eqb-true i job q) (lt-ltb 0 (get_or left job 0) has_left))
          (λ q. ap (λ y. ltb 0 y) (sym (get_or-set_other left job i x 0 (eqb-false i job q))) ∙ e)

      abbrev end : ℕ
      end = time + get_or left job 0

      -- the time at which the run stops: its end, or the next ready time
      record Stops (stop : ℕ) : Type 0 where
        later : time < stop
        by_end : stop ≤ end
        none_between : Quiet table pattern time stop
        becomes : stop < end → (i : ℕ) × (i < length readied) × (get_or readied i 0 ≡ stop)

      stops : (next : Option ℕ) → ComesNext readied time next → Stops (sooner end next)
      stops None comes =
          record {
            later = omega (arith, has_left);
            by_end = omega arith;
            none_between = λ i l a. omega (arith, quiet never comes i l a, fits_run.ends);
            becomes = λ h. absurd (omega arith);
          }
      stops (Some next) comes =
          record {
            later = omega (arith, has_left, comes.after);
            by_end = omega arith;
            none_between = λ i l a. omega (arith, quiet next comes.none_between i l a);
            becomes = λ h. (comes.comes.0, comes.comes.1, omega (arith, comes.comes.2));
          }

      module _ {next : Option ℕ} (comes : ComesNext readied time next) {left' finishes' : List ℕ} {stop : ℕ}
          (ran : Ran job time next left finishes left' finishes' stop) where
        stopped : Stops stop
        stopped = rw ran.time_is (stops next comes)

        times_is : stop ≡ time + (stop - time)
        times_is = omega (arith, stopped.later)

        left_is : left' ≡ set left job (get_or left job 0 - (stop - time))
        left_is = ran.left_is ∙ ap (set left job) (omega (arith, stopped.later, stopped.by_end))

        -- it runs up to the next ready time, or to its end
        pub along_run : Along table pattern before stop left' finishes'
        along_run =
            rw (times_is, left_is)
            (along_after (stop - time) (omega (arith, stopped.later, stopped.by_end)) (λ i l a. omega (arith, times_is, stopped.none_between i l a)) finishes'
            (by_cases (ltb stop end) (λ e. rw (kept e) along.long) (λ e. rw (noted e) (simp length-set along.long)))
            (λ q. by_cases (ltb stop end) (λ e. absurd (omega (arith, stopped.later, ltb-true stop end e, q))) (λ e. rw (noted e) (get_or-set_same finishes job end 0 in_finishes ∙ omega (arith, q))))
            (λ i q. by_cases (ltb stop end) (λ e. rw (kept e)) (λ e. rw (noted e) (get_or-set_other finishes job i end 0 q))))
          where
            kept : ltb stop end ≡ true → finishes' ≡ finishes
            kept e = rw e at ran.finishes_is

            noted : ltb stop end ≡ false → finishes' ≡ set finishes job end
            noted e = rw e at ran.finishes_is

        pub turns-run : turns table stop left' < turns table time left
        unfolding turns
        turns-run =
            rw ran.left_is
            (by_cases (ltb stop end)
            (λ e.
            omega (
              arith,
              unready_less stop stopped.later (stopped.becomes (ltb-true stop end e)),
              count-le (jobs table) (λ i. ltb 0 (get_or (set left job (end - stop)) i 0)) (λ i. ltb 0 (get_or left i 0)) (λ i l. left_le (end - stop) i),
            ))
            (λ e.
            let gone : get_or (set left job (end - stop)) job 0 ≤ 0 = omega (arith, get_or-set_same left job (end - stop) 0 in_left, ltb-false stop end e) in
            omega (
              arith,
              unready_le stop (omega (arith, stopped.later)),
              count_less (jobs table) (λ i. ltb 0 (get_or (set left job (end - stop)) i 0)) (λ i. ltb 0 (get_or left i 0)) job is_job
                  (le-ltb 0 (get_or (set left job (end - stop)) job 0) gone) (lt-ltb 0 (get_or left job 0) has_left) (λ i l. left_le (end - stop) i),
            )))
