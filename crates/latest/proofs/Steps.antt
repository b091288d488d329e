-- One step of the row: for each count w of faults the latest end of the work so far.
use Prim.Native.Nat.{ℕ, zero, suc, ◌+◌, max}
use mathlib.Core.Bool.{Bool, true, false, cond}
use lib.Dec.{leb}

-- One fault more, that costs v. An end of 0 is over and stays so.
abbrev pub again : ℕ → ℕ → ℕ
again v zero = 0
again v (suc e) = suc e + v

-- The end e after a job that is ready at r and runs c without fault. Past the judged job an end that the job does not come before is over.
abbrev pub enters : Bool → ℕ → ℕ → ℕ → ℕ
enters false r c e = max e r + c
enters true r c e = cond (leb e r) 0 (e + c)

-- With at most w faults: none on this job, or one more than with at most w − 1.
unfoldable pub spread : ℕ → (ℕ → ℕ) → ℕ → ℕ
spread v first zero = first 0
spread v first (suc w) = max (first (suc w)) (again v (spread v first w))

-- The row after a job of the walk.
abbrev pub turned : Bool → ℕ → ℕ → ℕ → (ℕ → ℕ) → ℕ → ℕ
turned past r c v before = spread v (λ u. enters past r c (before u))

-- How many of the w faults that is on this job.
unfoldable pub picks : ℕ → (ℕ → ℕ) → ℕ → ℕ
picks v first zero = 0
picks v first (suc w) = cond (leb (again v (spread v first w)) (first (suc w))) 0 (suc (picks v first w))

-- The faults on a job of the walk.
abbrev pub picked : Bool → ℕ → ℕ → ℕ → (ℕ → ℕ) → ℕ → ℕ
picked past r c v before = picks v (λ u. enters past r c (before u))
