-- The paper's theorem 2 for one pattern: the least urgent job has ended at the first time, from its own fault-free finish on, at which that pattern's
-- extra work is zero.
--
-- The work left under the pattern is the work left without faults, the extra work, and the recoveries of the jobs that are ready and not yet finished
-- without faults (work_splits). Where no work is left without faults there is no such job. So where the extra work is zero just after an idle slot,
-- or at the job's own finish, no work is left at all; and extra work comes to zero only in an idle slot. Assumes nothing.
use Prim.Native.Nat.{ℕ, zero, suc, ◌+◌, ◌-◌, ◌≤◌, ◌<◌}
use native.Mathlib.Nat.{add-zero, add-suc, add-sub_of_le}
use native.Mathlib.Omega.{arith}
use mathlib.Core.Path.{◌≡◌, refl, sym, ◌∙◌}
use mathlib.Core.Bool.{true, false, cond, ◌&&◌, true≢false}
use mathlib.Core.List.{List}
use lib.Dec.{ltb, eqb}
use borrow.Author.Tests.{ltb-true, ltb-false, lt-ltb, le-ltb, eqb-true, eqb-false, ne_eqb}
use Rattle.jobs.specs.Below.{total}
use Rattle.jobs.specs.Table.{jobs, ready}
use Rattle.jobs.specs.Urgency.{urgent}
use Rattle.jobs.proofs.Below.{by_cases, and_left, and_right, total_same, total-add, total_zero, part_le-total}
use Rattle.jobs.proofs.Urgency.{urgency_order}
use Rattle.jobs.proofs.Refusals.{Good}
use Rattle.frame.specs.Schedule.{need, had, idle, finish, no_faults}
use Rattle.frame.specs.Delays.{fault_free, extra}
use Rattle.frame.proofs.Slots.{waits_is, runs_is, had_rises}
use Rattle.frame.proofs.Queue.{FirstZero, left}
use Rattle.frame.proofs.Work.{Closed, owed, work, present, arrives, present_is, work-next, work_is_left}
use Rattle.frame.proofs.Finish.{at_least, finish-met, finish_law, work_empties}
use Rattle.frame.proofs.FreeSlots.{every_job, idle_is_empty, need-no_faults}
use Rattle.delays.proofs.Places.{needs_some}
use Rattle.delays.proofs.Extra.{adds, grows, extra-next}

-- ---- one slot further

-- before e, what counts until e and at e counts
until_end : (e t x : ℕ) → t < e → cond (ltb (suc t) e) x 0 + cond (eqb e (suc t)) x 0 ≡ x
until_end e t x l =
    by_cases (eqb e (suc t))
    (λ a. rw (a, le-ltb (suc t) e (omega (arith, eqb-true e (suc t) a))) (omega arith))
    (λ a. rw (a, lt-ltb (suc t) e (omega (arith, eqb-false e (suc t) a))) (omega arith))

-- what counts after r and until e: one slot further, with what ends there, it is what it was with what begins there
passes : (r e t x : ℕ) → r < e
    → cond (ltb r (suc t) && ltb (suc t) e) x 0 + cond (eqb e (suc t)) x 0 ≡ cond (ltb r t && ltb t e) x 0 + cond (eqb r t) x 0
passes r e t x l =
    by_cases (eqb r t)
    (λ a.
    let same : r ≡ t = eqb-true r t a in
    rw (a, lt-ltb r (suc t) (omega arith), le-ltb r t (omega arith)) (omega (arith, until_end e t x (omega arith))))
    (λ a.
    let other : (r ≡ t → ⊥) = eqb-false r t a in
    rw a
    (by_cases (ltb r t)
    (λ b.
    let before : r < t = ltb-true r t b in
    rw (b, lt-ltb r (suc t) (omega arith))
    (by_cases (ltb t e)
    (λ d. rw d (omega (arith, until_end e t x (ltb-true t e d))))
    (λ d.
    let past : e ≤ t = ltb-false t e d in
    rw (d, le-ltb (suc t) e (omega arith), ne_eqb e (suc t) (λ q. omega arith)))))
    (λ b.
    let after : t ≤ r = ltb-false r t b in
    rw (b, le-ltb r (suc t) (omega arith), ne_eqb e (suc t) (λ q. omega arith)))))

-- ---- the work left under a pattern

module _ (table pattern : List ℕ) (good : Good table) where
  every : Closed table every_job
  every = record { up = λ i j s u. refl }

  -- the work left under the pattern and without faults
  abbrev left-with : ℕ → ℕ
  left-with = work table pattern every_job

  abbrev left-without : ℕ → ℕ
  left-without = work table (no_faults table) every_job

  -- the recoveries of the jobs that are ready before t and finish after t without faults, and of those that become ready at t
  unfoldable under_way : ℕ → ℕ
  under_way t = total (jobs table) (λ job. cond (ltb (ready table job) t && ltb t (fault_free table job)) (adds table pattern good job) 0)

  unfoldable begins : ℕ → ℕ
  begins t = total (jobs table) (λ job. cond (eqb (ready table job) t) (adds table pattern good job) 0)

  need_splits : (job : ℕ) → job < jobs table → need table pattern job ≡ need table (no_faults table) job + adds table pattern good job
  unfolding need
  need_splits job l = omega (arith, need-no_faults table job l)

  arrives_splits : (t : ℕ) → arrives table pattern every_job t ≡ arrives table (no_faults table) every_job t + begins t
  unfolding arrives begins
  arrives_splits t =
      total_same (jobs table) _ _ part
      ∙ total-add (jobs table) (λ job. cond (eqb (ready table job) t) (need table (no_faults table) job) 0)
      (λ job. cond (eqb (ready table job) t) (adds table pattern good job) 0)
    where
      part : (job : ℕ) → job < jobs table
          → cond (eqb (ready table job) t) (need table pattern job) 0
          ≡ cond (eqb (ready table job) t) (need table (no_faults table) job) 0 + cond (eqb (ready table job) t) (adds table pattern good job) 0
      part job l = by_cases (eqb (ready table job) t) (λ e. rw e (need_splits job l)) (λ e. rw e)

  -- a job is ready before its finish, and has finished once it has had its need
  ready_before : (job : ℕ) → job < jobs table → ready table job < fault_free table job
  unfolding fault_free
  ready_before job l =
      let f = finish-met table (no_faults table) job l (needs_some table good job l) in
      omega (arith, f.1, (waits_is table (no_faults table) f.0 job (runs_is table (no_faults table) f.0 job f.2.runs).has).0)

  finished_by : (job t : ℕ) → job < jobs table → need table (no_faults table) job ≤ had table (no_faults table) t job → fault_free table job ≤ t
  unfolding fault_free
  finished_by job t l h =
      let f = finish-met table (no_faults table) job l (needs_some table good job l) in
      let short = (waits_is table (no_faults table) f.0 job (runs_is table (no_faults table) f.0 job f.2.runs).has).1 in
      by_cases (ltb f.0 t)
      (λ e. omega (arith, f.1, ltb-true f.0 t e))
      (λ e. absurd (omega (arith, had_rises table (no_faults table) job t f.0 (ltb-false f.0 t e))))

  under_way-next : (t : ℕ) → under_way (suc t) + grows table pattern good (suc t) ≡ under_way t + begins t
  unfolding under_way begins
  under_way-next t =
      sym (total-add (jobs table) _ _)
      ∙ total_same (jobs table) _ _ (λ job l. passes (ready table job) (fault_free table job) t (adds table pattern good job) (ready_before job l))
      ∙ total-add (jobs table) _ _

  -- Where no work is left without faults no job is under way.
  none_under_way : (t : ℕ) → left-without t ≡ 0 → under_way t ≡ 0
  unfolding work under_way
  none_under_way t none = total_zero (jobs table) _ part
    where
      part : (job : ℕ) → job < jobs table → cond (ltb (ready table job) t && ltb t (fault_free table job)) (adds table pattern good job) 0 ≡ 0
      part job l =
          by_cases (ltb (ready table job) t && ltb t (fault_free table job))
          (λ e.
          let came = and_left (ltb (ready table job) t) _ e in
          let before : t < fault_free table job = ltb-true _ _ (and_right (ltb (ready table job) t) _ e) in
          let owes = part_le-total (jobs table) (λ i. cond (ltb (ready table i) t) (owed table (no_faults table) every_job t i) 0) job l in
          absurd (omega (arith, finished_by job t l (omega (arith, rw came at owes)))))
          (λ e. rw e)

  -- Where nothing is ready without faults nothing begins.
  none_begins : (t : ℕ) → arrives table (no_faults table) every_job t ≡ 0 → begins t ≡ 0
  unfolding arrives begins
  none_begins t none = total_zero (jobs table) _ part
    where
      part : (job : ℕ) → job < jobs table → cond (eqb (ready table job) t) (adds table pattern good job) 0 ≡ 0
      part job l =
          by_cases (eqb (ready table job) t)
          (λ e.
          let needs = part_le-total (jobs table) (λ i. cond (eqb (ready table i) t) (need table (no_faults table) i) 0) job l in
          absurd (omega (arith, rw e at needs, needs_some table good job l)))
          (λ e. rw e)

  -- the work left in one slot
  start : (faults : List ℕ) → work table faults every_job 0 ≡ 0
  unfolding left
  start faults = work_is_left table faults every_job every 0

  step : (faults : List ℕ) (t : ℕ) → work table faults every_job (suc t) ≡ present table faults every_job t - 1
  step faults t = work-next table faults every_job every t

  -- an idle slot has no work without faults, and any other has some
  idle-leaves_none : (t : ℕ) → idle table (no_faults table) t ≡ true → present table (no_faults table) every_job t ≡ 0
  idle-leaves_none t e = eqb-true _ _ (sym (idle_is_empty table (no_faults table) t) ∙ e)

  busy_leaves-some : (t : ℕ) → idle table (no_faults table) t ≡ false → present table (no_faults table) every_job t ≡ 0 → ⊥
  busy_leaves-some t e = eqb-false _ _ (sym (idle_is_empty table (no_faults table) t) ∙ e)

  -- extra work in one slot
  extra_start : extra table pattern 0 ≡ 0
  unfolding extra
  extra_start = refl

  extra_falls : (t : ℕ) → idle table (no_faults table) t ≡ true → extra table pattern (suc t) ≡ extra table pattern t - 1 + grows table pattern good (suc t)
  extra_falls t e = rw e at (extra-next table pattern good t)

  extra_stays : (t : ℕ) → idle table (no_faults table) t ≡ false → extra table pattern (suc t) ≡ extra table pattern t - 0 + grows table pattern good (suc t)
  extra_stays t e = rw e at (extra-next table pattern good t)

  -- The work left under the pattern is the work left without faults, the extra work and the recoveries under way.
  work_splits : (t : ℕ) → left-with t ≡ left-without t + extra table pattern t + under_way t
  work_splits zero = omega (arith, start pattern, start (no_faults table), extra_start, none_under_way 0 (start (no_faults table)))
  work_splits (suc t) =
      by_cases (idle table (no_faults table) t)
      (λ e.
      let none = idle-leaves_none t e in
      let still = none_under_way t (omega (arith, present_is table (no_faults table) every_job t)) in
      let begun = none_begins t (omega (arith, present_is table (no_faults table) every_job t)) in
      omega (
        arith,
        work_splits t,
        extra_falls t e,
        step pattern t,
        step (no_faults table) t,
        present_is table pattern every_job t,
        present_is table (no_faults table) every_job t,
        arrives_splits t,
        under_way-next t,
      ))
      (λ e.
      let some = busy_leaves-some t e in
      omega (
        arith,
        work_splits t,
        extra_stays t e,
        step pattern t,
        step (no_faults table) t,
        present_is table pattern every_job t,
        present_is table (no_faults table) every_job t,
        arrives_splits t,
        under_way-next t,
      ))

-- ---- the least urgent job

-- g is zero at e, and nowhere before it from r on
pub record FirstFrom (g : ℕ → ℕ) (r e : ℕ) : Type 0 where
  pub later : r ≤ e
  pub zero : g e ≡ 0
  pub before : (t : ℕ) → r ≤ t → t < e → 0 < g t

module _ (table pattern : List ℕ) (good : Good table) (job : ℕ) (is_job : job < jobs table)
    (last : (other : ℕ) → other < jobs table → (other ≡ job → ⊥) → urgent table other job ≡ true) where
  -- every job is at least as urgent
  all-at_least : (other : ℕ) → other < jobs table → at_least table job other ≡ true
  unfolding at_least
  all-at_least other l =
      by_cases (urgent table job other)
      (λ u.
      absurd
      (true≢false
      (sym ((urgency_order table).transitive job other job u (last other l (λ e. true≢false (sym (rw e at u) ∙ (urgency_order table).irreflexive job))))
      ∙ (urgency_order table).irreflexive job)))
      (λ u. rw u)

  work_of_all : (faults : List ℕ) (t : ℕ) → work table faults (at_least table job) t ≡ work table faults every_job t
  unfolding work
  work_of_all faults t = total_same (jobs table) _ _ (λ i l. rw (all-at_least i l))

  -- where the work of all jobs runs empty after the job came
  empties : (faults : List ℕ) → 0 < need table faults job → FirstZero (work table faults every_job) (ready table job) (finish table faults job)
  empties faults needs =
      let e = work_empties table faults job is_job needs in
      rw (finish_law table faults job is_job needs)
      (record {
        later = e.later;
        zero = sym (work_of_all faults _) ∙ e.zero;
        before = λ t a b. omega (arith, work_of_all faults t, e.before t a b);
      })

  with : FirstZero (work table pattern every_job) (ready table job) (finish table pattern job)
  with = empties pattern (omega (arith, need_splits table pattern good job is_job, needs_some table good job is_job))

  without : FirstZero (work table (no_faults table) every_job) (ready table job) (fault_free table job)
  unfolding fault_free
  without = empties (no_faults table) (needs_some table good job is_job)

  splits : (t : ℕ) → work table pattern every_job t ≡ work table (no_faults table) every_job t + extra table pattern t + under_way table pattern good t
  splits = work_splits table pattern good

  not_sooner : fault_free table job ≤ finish table pattern job
  not_sooner =
      by_cases (ltb (finish table pattern job) (fault_free table job))
      (λ e.
      absurd
      (omega (
        arith,
        without.before (finish table pattern job) with.later (ltb-true _ _ e),
        splits (finish table pattern job),
        with.zero,
      )))
      (λ e. ltb-false _ _ e)

  -- where no work is left without faults, and the job has not ended, there is extra work
  extra-left : (t : ℕ) → fault_free table job ≤ t → t < finish table pattern job → work table (no_faults table) every_job t ≡ 0 → 0 < extra table pattern t
  extra-left t a b none = omega (arith, splits t, none_under_way table pattern good t none, with.before t (omega (arith, without.later)) b)

  until_ended : (d : ℕ) → fault_free table job + d < finish table pattern job → 0 < extra table pattern (fault_free table job + d)
  until_ended zero l = rw (add-zero (fault_free table job)) (extra-left (fault_free table job) (omega arith) (omega arith) without.zero)
  until_ended (suc d) l =
      rw (add-suc (fault_free table job) d)
      (by_cases (idle table (no_faults table) (fault_free table job + d))
      (λ e.
      extra-left (suc (fault_free table job + d)) (omega arith) (omega arith)
      (omega (arith, step table pattern good (no_faults table) (fault_free table job + d), idle-leaves_none table pattern good (fault_free table job + d) e)))
      (λ e. omega (arith, until_ended d (omega arith), extra_stays table pattern good (fault_free table job + d) e)))

  -- The paper's theorem 2: the least urgent job ends at the first time from its fault-free finish on at which the pattern's extra work is zero.
  pub ends_at_first_zero : FirstFrom (extra table pattern) (fault_free table job) (finish table pattern job)
  ends_at_first_zero =
      record {
        later = not_sooner;
        zero = omega (arith, splits (finish table pattern job), with.zero);
        before = λ t a b. rw (sym (add-sub_of_le a)) (until_ended (t - fault_free table job) (omega (arith, add-sub_of_le a)));
      }
