-- The schedule under a pattern of zeros is the one without faults: such a pattern is accepted, and the finishes are the fault-free ones.
-- Assumes nothing.
use Prim.Native.Nat.{ℕ, zero, suc, ◌≤◌}
use native.Mathlib.Omega.{arith}
use mathlib.Core.Path.{◌≡◌, refl, ap, ◌∙◌}
use mathlib.Core.List.{List, ◌∷◌}
use lib.ListN.{take, replicate, length-replicate}
use Rattle.jobs.specs.Table.{jobs}
use Rattle.jobs.specs.Refusals.{fine, first, table_refusals}
use Rattle.frame.specs.Schedule.{no_faults, finish}
use Rattle.frame.specs.Latest.{sum, AtMost}
use Rattle.frame.specs.Delays.{fault_free}
use Rattle.schedule.specs.Asks.{fill, fault_free_finishes}

sum_zeros : (n : ℕ) → sum (replicate n 0) ≡ 0
unfolding sum
sum_zeros zero = refl
sum_zeros (suc n) = omega (arith, sum_zeros n)

take_zeros : (n m : ℕ) → n ≤ m → take {A = ℕ} n (replicate m 0) ≡ replicate n 0
take_zeros zero m l = refl
take_zeros (suc n) zero l = absurd (omega arith)
take_zeros (suc n) (suc m) l = ap (λ rest. 0 ∷ rest) (take_zeros n m (omega arith))

module _ (table : List ℕ) where
  -- the zeros that are lent are the pattern without faults
  zeros_none : (n : ℕ) → n ≡ jobs table → n ≤ 64 → take {A = ℕ} n (replicate 64 0) ≡ no_faults table
  unfolding no_faults
  zeros_none n e l = take_zeros n 64 l ∙ ap (λ m. replicate m 0) e

  pub zeros_few : AtMost (jobs table) 0 (no_faults table)
  unfolding no_faults
  zeros_few = record { long = length-replicate (jobs table) 0; few = omega (arith, sum_zeros (jobs table)) }

  -- so they are a pattern that is accepted
  pub zeros_accepted : {n : ℕ} → n ≡ jobs table → n ≤ 64 → AtMost (jobs table) 8 (take n (replicate 64 0))
  zeros_accepted {n} e l = rw (zeros_none n e l) (record { long = zeros_few.long; few = omega (arith, zeros_few.few) })

  -- and its schedule is the fault-free one
  pub zeros_finishes : {n : ℕ} {after : List ℕ} → n ≡ jobs table → n ≤ 64 → first (table_refusals table) ≡ fine
      → after ≡ fill (jobs table) (finish table (take n (replicate 64 0))) (replicate 64 0) → after ≡ fault_free_finishes table
  unfolding fault_free
  zeros_finishes {n} e l none filled = rw none (rw (zeros_none n e l) at filled)
