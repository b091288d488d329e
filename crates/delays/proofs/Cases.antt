-- 01's worked case of delays, proved of the definitions by computing. Assumes nothing.
use Prim.Native.Nat.{ℕ}
use mathlib.Core.Path.{◌≡◌, refl}
use mathlib.Core.List.{[], ◌∷◌}
use Rattle.jobs.specs.Below.{total, count, greatest, some, least, listed}
use Rattle.jobs.specs.Urgency.{by_key, urgent, position, job_at}
use Rattle.frame.specs.Schedule.{need, foremost, waits, runs, had, idle, horizon, finish, no_faults, free_slots}
use Rattle.frame.specs.Latest.{over_patterns}
use Rattle.frame.specs.Delays.{fault_free, extra, most_extra, delay}
use Rattle.delays.specs.Rows.{next_row, rows}
use Rattle.delays.proofs.Places.{last_finish, delay_row}

-- what computes in the case
worked : ℕ
unfolding total count greatest some least listed by_key urgent position job_at need foremost waits runs had idle horizon finish no_faults free_slots over_patterns fault_free extra most_extra delay next_row rows last_finish
worked = 0

-- Case 16: delays 4 and 10.
pub case_16 : listed 2 (delay (0 ∷ 3 ∷ 20 ∷ 2 ∷ 4 ∷ 1 ∷ 15 ∷ 5 ∷ []) 2) ≡ 4 ∷ 10 ∷ []
unfolding worked
case_16 = refl

-- The same by formula (6), at the two finishing places.
pub case_16_by_formula : listed 3 (λ p. delay_row (0 ∷ 3 ∷ 20 ∷ 2 ∷ 4 ∷ 1 ∷ 15 ∷ 5 ∷ []) p 2) ≡ 0 ∷ 4 ∷ 10 ∷ []
unfolding worked
case_16_by_formula = refl
