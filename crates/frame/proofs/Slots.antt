-- The laws of the slots: some job runs whenever one waits, and only one; what a job has had starts at zero, grows by one in each slot
-- in which it runs, and is never more than it needs. Assumes nothing.
use Prim.Native.Nat.{ℕ, zero, suc, ◌+◌, ◌≤◌, ◌<◌, zero-le}
use native.Mathlib.Nat.{eq-or-lt_of_le, le_of_suc-le-suc, le_antisymm}
use native.Mathlib.Omega.{arith}
use mathlib.Core.Path.{◌≡◌, refl, sym, ap, ◌∙◌}
use mathlib.Core.Logic.{⊎_elim}
use mathlib.Core.Bool.{Bool, true, false, true≢false}
use mathlib.Core.List.{List}
use lib.Dec.{leb}
use borrow.Author.Tests.{ltb-true, lt-ltb, leb-true, le-leb, not-true}
use Rattle.jobs.specs.Table.{jobs, ready}
use Rattle.jobs.proofs.Below.{by_cases, and_left, and_right, some_at, none_at}
use Rattle.frame.specs.Schedule.{need, waits, runs, had, idle}
use Rattle.frame.proofs.Foremost.{Foremost, foremost_is, foremost_exists, foremost_one}

module _ (table pattern : List ℕ) where
  -- what waits and runs at time t
  abbrev pub waits_at : ℕ → ℕ → Bool
  waits_at t = waits table pattern (had table pattern t) t

  abbrev pub runs_at : ℕ → ℕ → Bool
  runs_at t = runs table pattern (had table pattern t) t

  -- ---- waiting

  pub waits_is : (t job : ℕ) → waits_at t job ≡ true → (ready table job ≤ t) × (had table pattern t job < need table pattern job)
  unfolding waits
  waits_is t job e = (leb-true _ _ (and_left _ _ e), ltb-true _ _ (and_right (leb (ready table job) t) _ e))

  pub is_waiting : (t job : ℕ) → ready table job ≤ t → had table pattern t job < need table pattern job → waits_at t job ≡ true
  unfolding waits
  is_waiting t job r h = rw (le-leb _ _ r, lt-ltb _ _ h)

  -- ---- running

  pub runs_is : (t job : ℕ) → runs_at t job ≡ true → Foremost table (waits_at t) job
  unfolding runs
  runs_is t job e = foremost_is table (waits_at t) job e

  -- Some job runs whenever one waits.
  pub some_runs : (t job : ℕ) → job < jobs table → waits_at t job ≡ true → (i : ℕ) × (runs_at t i ≡ true)
  unfolding runs
  some_runs t job l e = foremost_exists table (waits_at t) (some_at (jobs table) (waits_at t) job l e)

  -- Only one job runs.
  pub one_runs : (t i j : ℕ) → runs_at t i ≡ true → runs_at t j ≡ true → (i ≡ j → ⊥) → ⊥
  unfolding runs
  one_runs t i j = foremost_one table (waits_at t) i j

  -- An idle slot is one in which no job waits, so none runs.
  pub idle_is : (t : ℕ) → idle table pattern t ≡ true → (job : ℕ) → job < jobs table → waits_at t job ≡ false
  unfolding idle
  idle_is t e job l = none_at (jobs table) (waits_at t) (not-true _ e) job l

  -- ---- what a job has had

  pub had-runs : (t job : ℕ) → runs_at t job ≡ true → had table pattern (suc t) job ≡ had table pattern t job + 1
  unfolding had
  had-runs t job e = rw e

  pub had_stays : (t job : ℕ) → runs_at t job ≡ false → had table pattern (suc t) job ≡ had table pattern t job
  unfolding had
  had_stays t job e = rw e (omega arith)

  -- a job that does not wait does not run
  pub had_rests : (t job : ℕ) → waits_at t job ≡ false → had table pattern (suc t) job ≡ had table pattern t job
  had_rests t job e =
      by_cases (runs_at t job)
      (λ r. absurd (true≢false (sym (runs_is t job r).has ∙ e)))
      (λ r. had_stays t job r)

  pub had-grows : (t job : ℕ) → had table pattern t job ≤ had table pattern (suc t) job
  had-grows t job =
      by_cases (runs_at t job) (λ r. omega (arith, had-runs t job r)) (λ r. omega (arith, had_stays t job r))

  pub had_rises : (job s t : ℕ) → s ≤ t → had table pattern s job ≤ had table pattern t job
  had_rises job s zero l = omega (arith, ap (λ u. had table pattern u job) (le_antisymm l zero-le))
  had_rises job s (suc t) l =
      ⊎_elim
      (λ e. rw e (omega arith))
      (λ k. omega (arith, had-grows t job, had_rises job s t (le_of_suc-le-suc k)))
      (eq-or-lt_of_le l)

  pub had_within : (t job : ℕ) → had table pattern t job ≤ need table pattern job
  unfolding had
  had_within zero job = omega arith
  had_within (suc t) job =
      by_cases (runs_at t job)
      (λ r. omega (arith, had-runs t job r, (waits_is t job (runs_is t job r).has).1))
      (λ r. omega (arith, had_stays t job r, had_within t job))

  pub had_unready : (t job : ℕ) → t ≤ ready table job → had table pattern t job ≡ 0
  unfolding had
  had_unready zero job l = refl
  had_unready (suc t) job l =
      by_cases (runs_at t job)
      (λ r. absurd (omega (arith, (waits_is t job (runs_is t job r).has).0)))
      (λ r. omega (arith, had_stays t job r, had_unready t job (omega arith)))
