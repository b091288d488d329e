-- The work that is left of a set of jobs, where the set has with a job every more urgent one.
--
-- While a job of the set waits, one of the set runs, since the most urgent waiting job does; so in each slot the work that is ready falls
-- by one, not below zero, whatever the order of service. That is the queue of the set's jobs in the order of their ready times
-- (work_is_left). Assumes nothing.
use Prim.Native.Nat.{ℕ, zero, suc, ◌+◌, ◌-◌, ◌≤◌, ◌<◌}
use native.Mathlib.Nat.{eq-or-lt_of_le}
use native.Mathlib.Omega.{arith}
use mathlib.Core.Path.{◌≡◌, sym, ap, ◌∙◌}
use mathlib.Core.Logic.{⊎_elim}
use mathlib.Core.Bool.{Bool, true, false, cond, ◌&&◌, true≢false}
use mathlib.Core.List.{List}
use lib.Dec.{leb, ltb, eqb, leb-suc-suc}
use borrow.Author.Tests.{ltb-true, ltb-false, lt-ltb, le-ltb, leb-true, leb-false, le-leb, eqb-true, eqb-false}
use Rattle.jobs.specs.Below.{total, some}
use Rattle.jobs.specs.Table.{jobs, ready}
use Rattle.jobs.specs.Urgency.{urgent, earlier, position, job_at}
use Rattle.jobs.proofs.Below.{by_cases, and_left, and_right, and_both, some_where, none_at, total_same, total_zero, total-add, total_falls, total_rearranged}
use Rattle.jobs.proofs.Urgency.{urgency_order, earlier_order, earlier-ready_no_later}
use Rattle.jobs.proofs.Orders.{Rearranges, rearranges}
use Rattle.frame.specs.Schedule.{need, had}
use Rattle.frame.proofs.Queue.{comes, left}
use Rattle.frame.proofs.Slots.{waits_at, runs_at, waits_is, is_waiting, runs_is, some_runs, one_runs, had-runs, had_stays, had-grows, had_unready}

-- a set of jobs that has with a job every more urgent one
pub record Closed (table : List ℕ) (set : ℕ → Bool) : Type 0 where
  pub up : (i j : ℕ) → set j ≡ true → urgent table i j ≡ true → set i ≡ true

-- ---- the jobs in the order of ready times

module _ (table : List ℕ) where
  -- the job at q in the order of ready times, when it is ready, and the place of a job in that order
  abbrev pub arrival : ℕ → ℕ
  arrival = job_at (earlier table) (jobs table)

  abbrev pub comes_at : ℕ → ℕ
  comes_at q = ready table (arrival q)

  abbrev pub turn : ℕ → ℕ
  turn = position (earlier table) (jobs table)

  pub arrivals : Rearranges (earlier table) (jobs table) arrival turn
  arrivals = rearranges (earlier table) (earlier_order table) (jobs table)

  pub comes_rising : (p q : ℕ) → p ≤ q → q < jobs table → comes_at p ≤ comes_at q
  comes_rising p q l m =
      ⊎_elim
      (λ e. rw e (omega arith))
      (λ k. earlier-ready_no_later table (arrival p) (arrival q) (arrivals.rising p q k m))
      (eq-or-lt_of_le l)

  pub in_order_of_ready : (g : ℕ → ℕ) → total (jobs table) (λ q. g (arrival q)) ≡ total (jobs table) g
  in_order_of_ready g =
      total_rearranged (jobs table) arrival turn g arrivals.at_below arrivals.number_below arrivals.number_at arrivals.at_number

-- what the job at q brings
abbrev pub brings : List ℕ → List ℕ → ℕ → ℕ
brings table pattern q = need table pattern (arrival table q)

-- whether the job at q is of the set
abbrev pub is_of : List ℕ → (ℕ → Bool) → ℕ → Bool
is_of table set q = set (arrival table q)

-- ---- the work of a set

module _ (table pattern : List ℕ) (set : ℕ → Bool) where
  -- what a job of the set still needs
  abbrev pub owed : ℕ → ℕ → ℕ
  owed t job = need table pattern job - had table pattern t job

  -- the work left at time t, of the jobs of the set that were ready before t
  unfoldable pub work : ℕ → ℕ
  work t = total (jobs table) (λ job. cond (set job && ltb (ready table job) t) (owed t job) 0)

  -- the same with the jobs that become ready at t
  unfoldable pub present : ℕ → ℕ
  present t = total (jobs table) (λ job. cond (set job && leb (ready table job) t) (owed t job) 0)

  -- the work that becomes ready at t
  unfoldable pub arrives : ℕ → ℕ
  arrives t = total (jobs table) (λ job. cond (set job && eqb (ready table job) t) (need table pattern job) 0)

  part_present : (t job : ℕ)
      → cond (set job && leb (ready table job) t) (owed t job) 0
      ≡ cond (set job && ltb (ready table job) t) (owed t job) 0 + cond (set job && eqb (ready table job) t) (need table pattern job) 0
  part_present t job =
      by_cases (set job)
      (λ s.
      rw s
      (by_cases (eqb (ready table job) t)
      (λ e.
      let r : ready table job ≡ t = eqb-true _ _ e in
      rw (e, le-leb (ready table job) t (omega arith), le-ltb (ready table job) t (omega arith))
      (omega (arith, had_unready table pattern t job (omega arith))))
      (λ e.
      let r : (ready table job ≡ t → ⊥) = eqb-false _ _ e in
      rw e
      (by_cases (leb (ready table job) t)
      (λ l. rw (l, lt-ltb (ready table job) t (omega (arith, leb-true (ready table job) t l))) (omega arith))
      (λ l. rw (l, le-ltb (ready table job) t (omega (arith, leb-false (ready table job) t l))))))))
      (λ s. rw s)

  pub present_is : (t : ℕ) → present t ≡ work t + arrives t
  unfolding present work arrives
  present_is t =
      total_same (jobs table) _ _ (λ job l. part_present t job)
      ∙ total-add (jobs table) (λ job. cond (set job && ltb (ready table job) t) (owed t job) 0)
      (λ job. cond (set job && eqb (ready table job) t) (need table pattern job) 0)

  pub work_start : work 0 ≡ 0
  unfolding work
  work_start =
      total_zero (jobs table) _
      (λ job l. rw (le-ltb (ready table job) 0 (omega arith)) (by_cases (set job) (λ s. rw s) (λ s. rw s)))

  -- nothing of the set waits: nothing is left
  module _ (t : ℕ) (none : (job : ℕ) → job < jobs table → (set job && waits_at table pattern t job) ≡ false) where
    owed_none : (job : ℕ) → job < jobs table → set job ≡ true → ready table job ≤ t → owed t job ≡ 0
    owed_none job l s r =
        by_cases (ltb (had table pattern t job) (need table pattern job))
        (λ h. absurd (true≢false (sym (and_both _ _ s (is_waiting table pattern t job r (ltb-true _ _ h))) ∙ none job l)))
        (λ h. omega (arith, ltb-false (had table pattern t job) (need table pattern job) h))

    part_none : (s : ℕ) (b : ℕ → Bool) (job : ℕ) → job < jobs table → (b job ≡ true → ready table job ≤ t) → owed s job ≤ owed t job
        → cond (set job && b job) (owed s job) 0 ≡ 0
    part_none s b job l r le =
        by_cases (set job && b job)
        (λ e. rw e (omega (arith, le, owed_none job l (and_left _ _ e) (r (and_right (set job) _ e)))))
        (λ e. rw e)

    pub present_none : present t ≡ 0
    unfolding present
    present_none =
        total_zero (jobs table) _
        (λ job l. part_none t (λ i. leb (ready table i) t) job l (λ e. leb-true _ _ e) (omega arith))

    work_none : work (suc t) ≡ 0
    unfolding work
    work_none =
        total_zero (jobs table) _
        (λ job l.
        part_none (suc t) (λ i. ltb (ready table i) (suc t)) job l
        (λ e. omega (arith, ltb-true (ready table job) (suc t) e))
        (omega (arith, had-grows table pattern t job)))

  -- a job of the set runs: the work falls by one
  module _ (t i : ℕ) (runs : runs_at table pattern t i ≡ true) (in_set : set i ≡ true) where
    part_runs : cond (set i && ltb (ready table i) (suc t)) (owed (suc t) i) 0 + 1 ≡ cond (set i && leb (ready table i) t) (owed t i) 0
    part_runs =
        let w = waits_is table pattern t i (runs_is table pattern t i runs).has in
        rw (in_set, le-leb (ready table i) t w.0, lt-ltb (ready table i) (suc t) (omega (arith, w.0)))
        (omega (arith, w.1, had-runs table pattern t i runs))

    part_stays : (job : ℕ) → (job ≡ i → ⊥)
        → cond (set job && ltb (ready table job) (suc t)) (owed (suc t) job) 0 ≡ cond (set job && leb (ready table job) t) (owed t job) 0
    part_stays job d =
        ap (λ b. cond (set job && b) (owed (suc t) job) 0) (leb-suc-suc (ready table job) t)
        ∙ ap (λ x. cond (set job && leb (ready table job) t) (need table pattern job - x) 0)
        (by_cases (runs_at table pattern t job)
        (λ r. absurd (one_runs table pattern t job i r runs d))
        (λ r. had_stays table pattern t job r))

    work_falls : work (suc t) + 1 ≡ present t
    unfolding work present
    work_falls =
        total_falls (jobs table) _ _ i (runs_is table pattern t i runs).is_job part_runs (λ job l d. part_stays job d)

  module _ (closed : Closed table set) where
    -- what runs while a job of the set waits is of the set
    runs_in_set : (t i job : ℕ) → job < jobs table → set job ≡ true → waits_at table pattern t job ≡ true → runs_at table pattern t i ≡ true → set i ≡ true
    runs_in_set t i job l s w r =
        by_cases (eqb job i)
        (λ e. ap set (sym (eqb-true job i e)) ∙ s)
        (λ e.
        closed.up i job s
        ((urgency_order table).total job i (eqb-false _ _ e) ((runs_is table pattern t i r).best job l w)))

    -- In each slot the work that is ready falls by one, not below zero.
    pub work-next : (t : ℕ) → work (suc t) ≡ present t - 1
    work-next t =
        by_cases (some (jobs table) (λ job. set job && waits_at table pattern t job))
        (λ e.
        let w = some_where (jobs table) (λ job. set job && waits_at table pattern t job) e in
        let s = and_left (set w.0) _ w.2 in
        let h = and_right (set w.0) (waits_at table pattern t w.0) w.2 in
        let r = some_runs table pattern t w.0 w.1 h in
        omega (arith, work_falls t r.0 r.1 (runs_in_set t r.0 w.0 w.1 s h r.1)))
        (λ e.
        let none = none_at (jobs table) (λ job. set job && waits_at table pattern t job) e in
        omega (arith, present_none t none, work_none t none))

    pub arrives_is_comes : (t : ℕ) → arrives t ≡ comes (comes_at table) (brings table pattern) (is_of table set) (jobs table) t
    unfolding arrives comes
    arrives_is_comes t =
        sym (in_order_of_ready table (λ job. cond (set job && eqb (ready table job) t) (need table pattern job) 0))

    -- The work left is what is left of the queue of the set's jobs in the order of ready times.
    pub work_is_left : (t : ℕ) → work t ≡ left (comes_at table) (brings table pattern) (is_of table set) (jobs table) t
    unfolding left
    work_is_left zero = work_start
    work_is_left (suc t) = omega (arith, work-next t, present_is t, arrives_is_comes t, work_is_left t)
