-- The finish law: a job's finish is where the queue of the jobs at least as urgent first runs empty after the job is ready.
--
-- The job is the least urgent of that set, so when it runs nothing else of the set waits: in the slot that meets its need the work left
-- comes to zero. Conversely, with no work left after its ready time the job has had its need. Assumes nothing.
use Prim.Native.Nat.{ℕ, zero, suc, ◌+◌, ◌-◌, ◌≤◌, ◌<◌, zero-le}
use native.Mathlib.Omega.{arith}
use mathlib.Core.Path.{◌≡◌, sym, ap, ◌∙◌}
use mathlib.Core.Bool.{Bool, true, false, not, cond, ◌&&◌, true≢false}
use mathlib.Core.List.{List}
use lib.Dec.{leb, ltb, eqb}
use borrow.Author.Tests.{ltb-true, ltb-false, lt-ltb, leb-true, le-leb, eqb-true, eqb-false, not-true}
use Rattle.jobs.specs.Below.{total, least}
use Rattle.jobs.specs.Table.{jobs, ready}
use Rattle.jobs.specs.Urgency.{urgent}
use Rattle.jobs.proofs.Below.{by_cases, and_left, and_right, part_le-total, total-le, total_zero, least_is, greatest_bounds}
use Rattle.jobs.proofs.Urgency.{urgency_order}
use Rattle.frame.specs.Schedule.{need, had, horizon, finish}
use Rattle.frame.proofs.Slots.{waits_at, runs_at, waits_is, is_waiting, runs_is, had-runs, had_stays, had_rests, had_rises, had_within, had_unready}
use Rattle.frame.proofs.Queue.{FirstZero, ends, halts, queue_empties, queue_bound}
use Rattle.frame.proofs.Work.{Closed, owed, work, arrival, comes_at, turn, brings, is_of, arrivals, comes_rising, in_order_of_ready, work_is_left}

module _ (table : List ℕ) (job : ℕ) where
  -- the jobs at least as urgent as this one
  unfoldable pub at_least : ℕ → Bool
  at_least other = not (urgent table job other)

  pub at_least_itself : at_least job ≡ true
  unfolding at_least
  at_least_itself = rw ((urgency_order table).irreflexive job)

  pub at_least_closed : Closed table at_least
  unfolding at_least
  at_least_closed = record { up = up }
    where
      up : (i j : ℕ) → not (urgent table job j) ≡ true → urgent table i j ≡ true → not (urgent table job i) ≡ true
      up i j s u =
          by_cases (urgent table job i)
          (λ v. absurd (true≢false (sym ((urgency_order table).transitive job i j v u) ∙ not-true _ s)))
          (λ v. rw v)

-- whether the job at q, in the order of ready times, is at least as urgent
abbrev pub urgent_at : List ℕ → ℕ → ℕ → Bool
urgent_at table job = is_of table (at_least table job)

-- where the queue of the jobs at least as urgent runs empty after this job came
unfoldable pub runs_empty : List ℕ → List ℕ → ℕ → ℕ
runs_empty table pattern job =
    ends (comes_at table) (brings table pattern) (urgent_at table job)
    (least (jobs table) (halts (comes_at table) (brings table pattern) (urgent_at table job) (turn table job)))

-- the work of the jobs at least as urgent
unfoldable pub workload : List ℕ → List ℕ → ℕ → ℕ
workload table pattern job = total (jobs table) (λ i. cond (at_least table job i) (need table pattern i) 0)

module _ (table pattern : List ℕ) (job : ℕ) (is_job : job < jobs table) where
  -- whether slot t meets the job's need
  abbrev met : ℕ → Bool
  met t = leb (need table pattern job) (had table pattern (suc t) job)

  -- with no work left after its ready time, the job has had its need
  empty_met : (t : ℕ) → ready table job ≤ t → work table pattern (at_least table job) (suc t) ≡ 0 → met t ≡ true
  unfolding work
  empty_met t r e = le-leb (need table pattern job) (had table pattern (suc t) job) (omega (arith, part, e, own))
    where
      g : ℕ → ℕ
      g i = cond (at_least table job i && ltb (ready table i) (suc t)) (owed table pattern (at_least table job) (suc t) i) 0

      part : g job ≤ total (jobs table) g
      part = part_le-total (jobs table) g job is_job

      own : g job ≡ need table pattern job - had table pattern (suc t) job
      own = rw (at_least_itself table job, lt-ltb (ready table job) (suc t) (omega arith))

  -- when the job runs, no other job at least as urgent waits
  alone : (t : ℕ) → runs_at table pattern t job ≡ true → (i : ℕ) → i < jobs table → at_least table job i ≡ true → (i ≡ job → ⊥) → waits_at table pattern t i ≡ false
  unfolding at_least
  alone t r i l s d =
      by_cases (waits_at table pattern t i)
      (λ w.
      absurd
      (true≢false
      (sym ((urgency_order table).total i job d ((runs_is table pattern t job r).best i l w)) ∙ not-true _ s)))
      (λ w. w)

  -- the slot that meets the need leaves no work
  met_empty : (t : ℕ) → runs_at table pattern t job ≡ true → need table pattern job ≤ had table pattern (suc t) job → work table pattern (at_least table job) (suc t) ≡ 0
  unfolding work
  met_empty t r h = total_zero (jobs table) _ part
    where
      part : (i : ℕ) → i < jobs table → cond (at_least table job i && ltb (ready table i) (suc t)) (need table pattern i - had table pattern (suc t) i) 0 ≡ 0
      part i l =
          by_cases (at_least table job i && ltb (ready table i) (suc t))
          (λ e.
          rw e
          (by_cases (eqb i job)
          (λ q. rw (eqb-true i job q) (omega arith))
          (λ q.
          let idle = alone t r i l (and_left _ _ e) (eqb-false i job q) in
          let due : ready table i < suc t = ltb-true _ _ (and_right (at_least table job i) _ e) in
          by_cases (ltb (had table pattern t i) (need table pattern i))
          (λ w. absurd (true≢false (sym (is_waiting table pattern t i (omega arith) (ltb-true _ _ w)) ∙ idle)))
          (λ w. omega (arith, had_rests table pattern t i idle, ltb-false (had table pattern t i) (need table pattern i) w)))))
          (λ e. rw e)

  -- slot t meets the job's need: the job runs in it and has then had what it needs
  pub record Meets (t : ℕ) : Type 0 where
    pub runs : runs_at table pattern t job ≡ true
    pub full : had table pattern (suc t) job ≡ need table pattern job

  module _ (needs : 0 < need table pattern job) where
    -- what a job has had by time t, it got by a slot before t
    met_by : (t : ℕ) → need table pattern job ≤ had table pattern t job → (s : ℕ) × (s < t) × Meets s
    met_by zero h = absurd (omega (arith, had_unready table pattern 0 job zero-le))
    met_by (suc t) h =
        by_cases (runs_at table pattern t job)
        (λ r. (t, omega arith, record { runs = r; full = omega (arith, had_within table pattern (suc t) job) }))
        (λ r. let s = met_by t (omega (arith, had_stays table pattern t job r)) in (s.0, omega (arith, s.1), s.2))

    -- The finish is the first time after the ready time at which no work is left of the jobs at least as urgent.
    pub finish_empties : (e : ℕ) → FirstZero (work table pattern (at_least table job)) (ready table job) e → e ≤ horizon table pattern → finish table pattern job ≡ e
    unfolding finish
    finish_empties zero z h = absurd (omega (arith, z.later))
    finish_empties (suc t) z h =
        ap suc (least_is (horizon table pattern) met t h (empty_met t (omega (arith, z.later)) z.zero) before)
      where
        too_early : (s : ℕ) → s < t → need table pattern job ≤ had table pattern (suc s) job → ⊥
        too_early s l h =
            let m = met_by (suc s) h in
            let r = (waits_is table pattern m.0 job (runs_is table pattern m.0 job m.2.runs).has).0 in
            let empty = met_empty m.0 m.2.runs (omega (arith, m.2.full)) in
            omega (arith, z.before (suc m.0) (omega arith) (omega (arith, m.1)))

        before : (s : ℕ) → s < t → met s ≡ false
        before s l = by_cases (met s) (λ m. absurd (too_early s l (leb-true _ _ m))) (λ m. m)

    -- this job's turn in the order of ready times
    abbrev p : ℕ
    p = turn table job

    turn_below : p < jobs table
    turn_below = (arrivals table).number_below job is_job

    own_turn : arrival table p ≡ job
    own_turn = (arrivals table).at_number job is_job

    same_ready : comes_at table p ≡ ready table job
    same_ready = ap (ready table) own_turn

    same_need : brings table pattern p ≡ need table pattern job
    same_need = ap (need table pattern) own_turn

    own_on : urgent_at table job p ≡ true
    own_on = rw own_turn (at_least_itself table job)

    empty_bound : runs_empty table pattern job ≤ ready table job + workload table pattern job
    unfolding workload runs_empty
    empty_bound =
        omega (
          arith,
          queue_bound (comes_at table) (brings table pattern) (urgent_at table job) (jobs table) (comes_rising table) p own_on turn_below (omega (arith, same_need)),
          same_ready,
          in_order_of_ready table (λ i. cond (at_least table job i) (need table pattern i) 0),
        )

    empty_in_time : runs_empty table pattern job ≤ horizon table pattern
    unfolding horizon workload
    empty_in_time =
        omega (
          arith,
          empty_bound,
          greatest_bounds (jobs table) (ready table) job is_job,
          total-le (jobs table) (λ i. cond (at_least table job i) (need table pattern i) 0) (need table pattern)
              (λ i l. by_cases (at_least table job i) (λ e. rw e (omega arith)) (λ e. rw e (omega arith))),
        )

    pub work_empties : FirstZero (work table pattern (at_least table job)) (ready table job) (runs_empty table pattern job)
    unfolding runs_empty
    work_empties =
        let queue = queue_empties (comes_at table) (brings table pattern) (urgent_at table job) (jobs table) (comes_rising table) p own_on turn_below (omega (arith, same_need)) in
        let same = work_is_left table pattern (at_least table job) (at_least_closed table job) in
        record {
          later = omega (arith, queue.later, same_ready);
          zero = same (runs_empty table pattern job) ∙ queue.zero;
          before = λ t a b. omega (arith, same t, queue.before t (omega (arith, same_ready)) b);
        }

    -- The finish law: a job finishes where the queue of the jobs at least as urgent runs empty.
    pub finish_law : finish table pattern job ≡ runs_empty table pattern job
    finish_law = finish_empties (runs_empty table pattern job) work_empties empty_in_time

    -- The finish is at most the ready time and the work of the jobs at least as urgent.
    pub finish_bound : finish table pattern job ≤ ready table job + workload table pattern job
    finish_bound = omega (arith, finish_law, empty_bound)

    -- Some slot meets the need, and the finish is one later.
    pub finish-met : (t : ℕ) × (finish table pattern job ≡ suc t) × Meets t
    finish-met = at (runs_empty table pattern job) finish_law work_empties
      where
        at : (e : ℕ) → finish table pattern job ≡ e → FirstZero (work table pattern (at_least table job)) (ready table job) e → (t : ℕ) × (finish table pattern job ≡ suc t) × Meets t
        at zero f z = absurd (omega (arith, z.later))
        at (suc t) f z =
            let m = met_by (suc t) (leb-true _ _ (empty_met t (omega (arith, z.later)) z.zero)) in
            (m.0, f ∙ ap suc (last m.0 m.1 m.2), m.2)
          where
            last : (s : ℕ) → s < suc t → Meets s → t ≡ s
            last s l m =
                by_cases (ltb s t)
                (λ k.
                let r = (waits_is table pattern s job (runs_is table pattern s job m.runs).has).0 in
                let empty = met_empty s m.runs (omega (arith, m.full)) in
                absurd (omega (arith, z.before (suc s) (omega arith) (omega (arith, ltb-true s t k)))))
                (λ k. omega (arith, ltb-false s t k))

  -- a job does not run once its need is met, so one slot at most meets it
  not_after : (s t : ℕ) → Meets s → Meets t → s < t → ⊥
  not_after s t a b l =
      omega (
        arith,
        had_rises table pattern job (suc s) t l,
        a.full,
        (waits_is table pattern t job (runs_is table pattern t job b.runs).has).1,
      )

  -- The finish of a job is t + 1 for the slot t that meets its need.
  pub met-finish : (t : ℕ) → Meets t → finish table pattern job ≡ suc t
  met-finish t m =
      let f = finish-met (omega (arith, had-runs table pattern t job m.runs, m.full)) in
      f.1
      ∙ ap suc
      (by_cases (ltb f.0 t)
      (λ k. absurd (not_after f.0 t f.2 m (ltb-true _ _ k)))
      (λ k.
      by_cases (ltb t f.0)
      (λ j. absurd (not_after t f.0 m f.2 (ltb-true _ _ j)))
      (λ j. omega (arith, ltb-false f.0 t k, ltb-false t f.0 j))))
