-- The ask delays: for a table and k, taking all its jobs, the delay for w = k at each job's fault-free finish, in job order; with its refusals and
-- the final contents of the lent buffer.
use Rattle.std.specs.Prelude.{ℕ, ◌≡◌, List, [], ◌∷◌, length}
use Rattle.jobs.specs.Table.{jobs}
use Rattle.jobs.specs.Refusals.{Check, first, cut_row, too_many_jobs, out_of_range, too_many_faults}
use Rattle.frame.specs.Delays.{delay}
use Rattle.schedule.specs.Asks.{short_buffer, unless, fill}

-- The order of refusals for delays: 1, 2, 3, 4, 5.
abbrev pub delays_refusals : List ℕ → ℕ → ℕ → List Check
delays_refusals table k room =
    cut_row table ∷ too_many_jobs table ∷ out_of_range table ∷ too_many_faults k ∷ short_buffer table room ∷ []

-- The answer is the first refusal, if any; the first n words of the buffer become the delays and the others stay, or all stay.
pub record Delayed (table : List ℕ) (k : ℕ) (before after : List ℕ) (answer : Check) : Type 0 where
  pub answers : answer ≡ first (delays_refusals table k (length before))
  pub fills : after ≡ unless (first (delays_refusals table k (length before))) (fill (jobs table) (delay table k) before) before
