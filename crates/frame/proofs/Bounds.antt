-- No finish exceeds 8,200,000: it is at most the job's ready time and the work of all jobs (finish_bound), and of at most 64 jobs the runs
-- come to at most 64 × 100,000 and the recoveries of a pattern that sums to at most 8 to at most 8 × 100,000. A job that has d slots left
-- at time t does not finish before t + d, so that sum is bounded too. Assumes nothing.
use Prim.Native.Nat.{ℕ, zero, suc, ◌+◌, ◌*◌, ◌-◌, ◌≤◌, ◌<◌}
use native.Mathlib.Nat.{add-zero, add-suc, add-mul, suc-mul, mul-le-mul_left, add-sub_of_le}
use native.Mathlib.Numerals.{add-one}
use native.Mathlib.Omega.{arith}
use mathlib.Core.Path.{◌≡◌, refl, ap}
use mathlib.Core.Bool.{cond}
use mathlib.Core.List.{List, [], ◌∷◌}
use lib.ListN.{length, get_or, drop}
use lib.Seq.{drop-cons, drop-length}
use lib.Dec.{ltb}
use borrow.Author.Tests.{ltb-true, ltb-false}
use Rattle.jobs.specs.Below.{total}
use Rattle.jobs.specs.Table.{jobs, run, recovery}
use Rattle.jobs.proofs.Below.{by_cases, total-le, total-add, part_le-total}
use Rattle.jobs.proofs.Refusals.{Good}
use Rattle.frame.specs.Schedule.{need, had, finish}
use Rattle.frame.specs.Latest.{sum, AtMost, latest}
use Rattle.frame.proofs.Slots.{runs_at, had-runs, had_stays, had_rises}
use Rattle.frame.proofs.Finish.{at_least, workload, finish_bound, finish-met}
use Rattle.frame.proofs.Patterns.{latest_reached}

-- ---- sums

total_at_most : (b n : ℕ) (g : ℕ → ℕ) → ((i : ℕ) → i < n → g i ≤ b) → total n g ≤ n * b
unfolding total
total_at_most b zero g h = omega arith
total_at_most b (suc n) g h = omega (arith, total_at_most b n g (λ i l. h i (omega arith)), h n (omega arith), suc-mul n b)

total-times : (b n : ℕ) (g : ℕ → ℕ) → total n (λ i. g i * b) ≡ total n g * b
unfolding total
total-times b zero g = omega arith
total-times b (suc n) g = omega (arith, total-times b n g, add-mul (total n g) (g n) b)

total_from_front : (n : ℕ) (g : ℕ → ℕ) → total (suc n) g ≡ g 0 + total n (λ i. g (suc i))
unfolding total
total_from_front zero g = omega arith
total_from_front (suc n) g = omega (arith, total_from_front n g)

-- the sum of a pattern is the sum of its counts
pub sum-total : (pattern : List ℕ) → sum pattern ≡ total (length pattern) (λ i. get_or pattern i 0)
unfolding sum total
sum-total [] = refl
sum-total (f ∷ rest) = omega (arith, sum-total rest, total_from_front (length rest) (λ i. get_or (f ∷ rest) i 0))

-- what is left of a sum from i on
pub sum_from : (pattern : List ℕ) (i : ℕ) → i < length pattern → sum (drop i pattern) ≡ get_or pattern i 0 + sum (drop (i + 1) pattern)
unfolding sum
sum_from pattern i l = rw (add-one, drop-cons pattern i 0 l)

pub sum_past : (pattern : List ℕ) (i : ℕ) → i ≡ length pattern → sum (drop i pattern) ≡ 0
unfolding sum
sum_past pattern i e = rw (e, drop-length pattern)

module _ (pattern : List ℕ) (n k : ℕ) (counts : AtMost n k pattern) where
  pub counts_at_most : total n (λ i. get_or pattern i 0) ≤ k
  counts_at_most = omega (arith, counts.few, sum-total pattern, ap (λ m. total m (λ i. get_or pattern i 0)) counts.long)

  pub count_at_most : (i : ℕ) → i < n → get_or pattern i 0 ≤ k
  count_at_most i l = omega (arith, counts_at_most, part_le-total n (λ j. get_or pattern j 0) i l)

-- ---- no finish exceeds 8,200,000

module _ (table pattern : List ℕ) (good : Good table) (k : ℕ) (few : k ≤ 8) (counts : AtMost (jobs table) k pattern) where
  runs_at_most : total (jobs table) (run table) ≤ 6400000
  runs_at_most = omega (arith, total_at_most 100000 (jobs table) (run table) good.run_at_most, good.few_jobs)

  recoveries_at_most : total (jobs table) (λ i. get_or pattern i 0 * recovery table i) ≤ 800000
  recoveries_at_most =
      omega (
        arith,
        total-le (jobs table) (λ i. get_or pattern i 0 * recovery table i) (λ i. get_or pattern i 0 * 100000)
            (λ i l. mul-le-mul_left (get_or pattern i 0) (good.recovery_at_most i l)),
        total-times 100000 (jobs table) (λ i. get_or pattern i 0),
        counts_at_most pattern (jobs table) k counts,
      )

  pub needs_at_most : total (jobs table) (need table pattern) ≤ 7200000
  unfolding need
  needs_at_most =
      omega (
        arith,
        total-add (jobs table) (run table) (λ i. get_or pattern i 0 * recovery table i),
        runs_at_most,
        recoveries_at_most,
      )

  pub need_positive : (job : ℕ) → job < jobs table → 0 < need table pattern job
  unfolding need
  need_positive job l = omega (arith, good.run-at_least job l)

  pub recovery_at_most : (job : ℕ) → job < jobs table → get_or pattern job 0 * recovery table job ≤ 800000
  recovery_at_most job l =
      omega (arith, recoveries_at_most, part_le-total (jobs table) (λ i. get_or pattern i 0 * recovery table i) job l)

  workload_at_most : (job : ℕ) → workload table pattern job ≤ total (jobs table) (need table pattern)
  unfolding workload
  workload_at_most job =
      total-le (jobs table) (λ i. cond (at_least table job i) (need table pattern i) 0) (need table pattern)
      (λ i l. by_cases (at_least table job i) (λ e. rw e (omega arith)) (λ e. rw e (omega arith)))

  -- No finish exceeds 8,200,000.
  pub finish_at_most : (job : ℕ) → job < jobs table → finish table pattern job ≤ 8200000
  finish_at_most job l =
      omega (
        arith,
        finish_bound table pattern job l (need_positive job l),
        workload_at_most job,
        needs_at_most,
        good.ready_at_most job l,
      )

  -- ---- a job does not finish before it has had what is left

  had_slowly : (t job d : ℕ) → had table pattern (t + d) job ≤ had table pattern t job + d
  had_slowly t job zero = rw (add-zero t) (omega arith)
  had_slowly t job (suc d) =
      rw (add-suc t d)
      (by_cases (runs_at table pattern (t + d) job)
      (λ r. omega (arith, had-runs table pattern (t + d) job r, had_slowly t job d))
      (λ r. omega (arith, had_stays table pattern (t + d) job r, had_slowly t job d)))

  -- A job that has d slots left at time t does not finish before t + d.
  pub finish_no_sooner : (t job : ℕ) → job < jobs table → had table pattern t job < need table pattern job
      → t + (need table pattern job - had table pattern t job) ≤ finish table pattern job
  finish_no_sooner t job l h =
      let f = finish-met table pattern job l (need_positive job l) in
      by_cases (ltb t (suc f.0))
      (λ e.
      let after : t ≤ suc f.0 = omega (arith, ltb-true t (suc f.0) e) in
      let same : t + (suc f.0 - t) ≡ suc f.0 = add-sub_of_le after in
      omega (
        arith,
        had_slowly t job (suc f.0 - t),
        ap (λ u. had table pattern u job) same,
        f.2.full,
        f.1,
      ))
      (λ e. absurd (omega (arith, had_rises table pattern job (suc f.0) t (ltb-false t (suc f.0) e), f.2.full)))

-- No latest finish exceeds 8,200,000 either.
pub latest_at_most : (table : List ℕ) → Good table → (k : ℕ) → k ≤ 8 → (job : ℕ) → job < jobs table → latest table k job ≤ 8200000
latest_at_most table good k few job l =
    let r = latest_reached table k job in
    omega (arith, r.reaches, finish_at_most table r.pattern good k few r.at_most job l)
