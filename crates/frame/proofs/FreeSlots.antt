-- Free slots in closed form.
--
-- A slot is idle exactly when no work is present. In each slot the processor either runs, and the work falls by one, or is idle; so the
-- idle slots before t and the work that came before t are together t and the work left at t (count_empty). In the order of ready times
-- what is left is known (Queue), and so the idle slots before t are the larger of t and the end of the first p jobs, served in that order, less
-- their needs, where the first p are those ready before t (idle_before_lem).
--
-- In order: counts that are split; the slots in which a queue is empty; idle slots; without faults; free slots. Assumes nothing.
use Prim.Native.Nat.{ℕ, zero, suc, ◌+◌, ◌-◌, ◌≤◌, ◌<◌, max}
use native.Mathlib.Nat.{add-zero, add-suc, add-sub_of_le}
use native.Mathlib.Numerals.{add-one}
use native.Mathlib.Omega.{arith}
use mathlib.Core.Path.{◌≡◌, refl, sym, ap, ◌∙◌}
use mathlib.Core.Bool.{Bool, true, cond}
use mathlib.Core.List.{List}
use lib.ListN.{get_or-replicate}
use lib.Dec.{leb, ltb, eqb}
use borrow.Author.Tests.{lt-ltb, le-ltb, le-leb, eq-eqb, ne_eqb, eqb-true, eqb-false, ltb-true, ltb-false}
use Rattle.jobs.specs.Below.{total, count, some}
use Rattle.jobs.specs.Table.{jobs, ready, run}
use Rattle.jobs.proofs.Below.{by_cases, some_where, none_at, part_le-total, total_same, total-add, count_none, count_more}
use Rattle.frame.specs.Schedule.{need, idle, no_faults, free_slots}
use Rattle.frame.proofs.Slots.{waits_at, waits_is}
use Rattle.frame.proofs.Queue.{comes, left, ends, left_rest, left_after}
use Rattle.frame.proofs.Work.{Closed, owed, present, present_is, present_none, arrives_is_comes, work_is_left, comes_at, comes_rising, brings}

-- ---- counts that are split

-- the first a, and d more
pub count_splits : (a d : ℕ) (p : ℕ → Bool) → count (a + d) p ≡ count a p + count d (λ i. p (a + i))
count_splits a zero p = rw (add-zero a) (omega (arith, count_none (λ i. p (a + i))))
count_splits a (suc d) p =
    rw (add-suc a d)
    (omega (arith, rw add-one at (count_more (a + d) p), rw add-one at (count_more d (λ i. p (a + i))), count_splits a d p))

-- ---- the slots in which a queue is empty

-- every arrival is on
abbrev pub every_arrival : ℕ → Bool
every_arrival q = true

module _ (ρ ν : ℕ → ℕ) where
  -- whether nothing is left and nothing comes in slot t, of the first p arrivals
  abbrev pub empty_in : ℕ → ℕ → Bool
  empty_in p t = eqb (left ρ ν every_arrival p t + comes ρ ν every_arrival p t) 0

  -- the work that came before time t, of the first p arrivals
  unfoldable pub came : ℕ → ℕ → ℕ
  came p t = total p (λ q. cond (ltb (ρ q) t) (ν q) 0)

  came_none : (p : ℕ) → came p 0 ≡ 0
  unfolding came total
  came_none zero = refl
  came_none (suc p) = rw (le-ltb (ρ p) 0 (omega arith)) (omega (arith, came_none p))

  came-next : (p t : ℕ) → came p (suc t) ≡ came p t + comes ρ ν every_arrival p t
  unfolding came comes
  came-next p t =
      total_same p _ _ (λ q l. part q) ∙ total-add p (λ q. cond (ltb (ρ q) t) (ν q) 0) (λ q. cond (eqb (ρ q) t) (ν q) 0)
    where
      part : (q : ℕ) → cond (ltb (ρ q) (suc t)) (ν q) 0 ≡ cond (ltb (ρ q) t) (ν q) 0 + cond (eqb (ρ q) t) (ν q) 0
      part q =
          by_cases (ltb (ρ q) t)
          (λ e.
          let l : ρ q < t = ltb-true _ _ e in
          rw (e, lt-ltb (ρ q) (suc t) (omega arith), ne_eqb (ρ q) t (λ s. omega arith)) (omega arith))
          (λ e.
          let l : t ≤ ρ q = ltb-false _ _ e in
          rw e
          (by_cases (eqb (ρ q) t)
          (λ s. rw (s, lt-ltb (ρ q) (suc t) (omega (arith, eqb-true (ρ q) t s))) (omega arith))
          (λ s. rw (s, le-ltb (ρ q) (suc t) (omega (arith, eqb-false (ρ q) t s))))))

  -- The empty slots before t, with the work that came, are t and the work left.
  pub count_empty : (p t : ℕ) → count t (empty_in p) + came p t ≡ t + left ρ ν every_arrival p t
  unfolding left
  count_empty p zero = omega (arith, came_none p, count_none (empty_in p))
  count_empty p (suc t) =
      by_cases (empty_in p t)
      (λ e.
      let more : count (suc t) (empty_in p) ≡ count t (empty_in p) + 1 = rw (add-one, e) at (count_more t (empty_in p)) in
      omega (arith, more, eqb-true (left ρ ν every_arrival p t + comes ρ ν every_arrival p t) 0 e, came-next p t, count_empty p t))
      (λ e.
      let more : count (suc t) (empty_in p) ≡ count t (empty_in p) + 0 = rw (add-one, e) at (count_more t (empty_in p)) in
      omega (arith, more, eqb-false (left ρ ν every_arrival p t + comes ρ ν every_arrival p t) 0 e, came-next p t, count_empty p t))

  -- with all of the first p come, and of the later ones none
  came-all : (p t : ℕ) → ((q : ℕ) → q < p → ρ q < t) → came p t ≡ total p ν
  unfolding came
  came-all p t h = total_same p _ ν (λ q l. rw (lt-ltb (ρ q) t (h q l)))

  module _ (n : ℕ) (rises : (p q : ℕ) → p ≤ q → q < n → ρ p ≤ ρ q) where
    came_rest : (p d t : ℕ) → p + d ≤ n → (0 < d → t ≤ ρ p) → came (p + d) t ≡ came p t
    unfolding came total
    came_rest p zero t l h = rw add-zero
    came_rest p (suc d) t l h =
        rw (add-suc p d, le-ltb (ρ (p + d)) t (omega (arith, h (omega arith), rises p (p + d) (omega arith) (omega arith))))
        (omega (arith, came_rest p d t (omega arith) (λ k. h (omega arith))))

    -- The empty slots before t, where the first p arrivals are those that come before t.
    pub empty_before : (p t : ℕ) → p ≤ n → ((q : ℕ) → q < p → ρ q < t) → (p < n → t ≤ ρ p) → count t (empty_in n) + total p ν ≡ max t (ends ρ ν every_arrival p)
    empty_before p t l h later =
        let rest : p + (n - p) ≡ n = add-sub_of_le l in
        let lefts = rw rest at (left_rest ρ ν every_arrival n rises p (n - p) t (omega arith) (λ k. later (omega arith))) in
        let cames = rw rest at (came_rest p (n - p) t (omega arith) (λ k. later (omega arith))) in
        omega (arith, count_empty n t, lefts, cames, left_after ρ ν every_arrival n rises p t l (λ q k o. h q k), came-all p t h)

-- ---- idle slots

-- the set of all jobs
abbrev pub every_job : ℕ → Bool
every_job job = true

-- what the job at q in the order of ready times needs
abbrev pub need_at : List ℕ → List ℕ → ℕ → ℕ
need_at = brings

module _ (table pattern : List ℕ) where
  every_closed : Closed table every_job
  every_closed = record { up = λ i j s u. refl }

  waits-present : (t job : ℕ) → job < jobs table → waits_at table pattern t job ≡ true → 0 < present table pattern every_job t
  unfolding present
  waits-present t job l e =
      let w = waits_is table pattern t job e in
      let part = part_le-total (jobs table) (λ i. cond (leb (ready table i) t) (owed table pattern every_job t i) 0) job l in
      omega (arith, rw (le-leb (ready table job) t w.0) at part, w.1)

  -- A slot is idle exactly when no work is present.
  pub idle_is_empty : (t : ℕ) → idle table pattern t ≡ eqb (present table pattern every_job t) 0
  unfolding idle
  idle_is_empty t =
      by_cases (some (jobs table) (waits_at table pattern t))
      (λ e.
      let w = some_where (jobs table) (waits_at table pattern t) e in
      rw (e, ne_eqb (present table pattern every_job t) 0 (λ z. omega (arith, waits-present t w.0 w.1 w.2))))
      (λ e.
      rw
      (e, eq-eqb (present table pattern every_job t) 0 (present_none table pattern every_job t (none_at (jobs table) (waits_at table pattern t) e))))

  idle_is_queue : (t : ℕ) → idle table pattern t ≡ empty_in (comes_at table) (need_at table pattern) (jobs table) t
  idle_is_queue t =
      idle_is_empty t
      ∙ rw
      (present_is table pattern every_job t, work_is_left table pattern every_job every_closed t, arrives_is_comes table pattern every_job every_closed t)

  count-idle : (t : ℕ) → count t (idle table pattern) ≡ count t (empty_in (comes_at table) (need_at table pattern) (jobs table))
  unfolding count
  count-idle t = total_same t _ _ (λ s l. ap (λ b. cond b 1 0) (idle_is_queue s))

  -- The idle slots before t, where the first p jobs in the order of ready times are those ready before t: with the needs of these p they are the
  -- larger of t and the time when these p, served in that order, are done.
  pub idle_before_lem : (p t : ℕ) → p ≤ jobs table → ((q : ℕ) → q < p → comes_at table q < t) → (p < jobs table → t ≤ comes_at table p)
      → count t (idle table pattern) + total p (need_at table pattern) ≡ max t (ends (comes_at table) (need_at table pattern) every_arrival p)
  idle_before_lem p t l h later =
      omega (arith, count-idle t, empty_before (comes_at table) (need_at table pattern) (jobs table) (comes_rising table) p t l h later)

-- ---- without faults

-- the idle slots before t in the schedule without faults
abbrev pub idle_before : List ℕ → ℕ → ℕ
idle_before table t = count t (idle table (no_faults table))

-- Without faults a job needs its run.
pub need-no_faults : (table : List ℕ) (job : ℕ) → job < jobs table → need table (no_faults table) job ≡ run table job
unfolding need no_faults
need-no_faults table job l = rw (get_or-replicate {A = ℕ} (jobs table) job 0 0 l) (omega arith)

-- ---- free slots

-- The idle slots before b are those before a and the free slots between a and b.
pub free_slots_between : (table : List ℕ) (a b : ℕ) → a ≤ b
    → idle_before table a + free_slots table a b ≡ idle_before table b
unfolding free_slots
free_slots_between table a b l =
    sym (count_splits a (b - a) (idle table (no_faults table))) ∙ ap (idle_before table) (add-sub_of_le l)

pub free_slots_none : (table : List ℕ) (a b : ℕ) → b ≤ a → free_slots table a b ≡ 0
unfolding free_slots
free_slots_none table a b l = ap (λ d. count d (λ t. idle table (no_faults table) (a + t))) (omega arith) ∙ count_none _
