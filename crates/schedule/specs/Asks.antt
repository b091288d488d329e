-- What may be asked of a frame's schedule, with the refusals and the final contents of the lent buffer.
use Rattle.std.specs.Prelude.{ℕ, ◌≡◌, not, ◌||◌, List, [], ◌∷◌, ◌++◌, length, drop, replicate, ltb, eqb, Result, Ok, Err}
use Rattle.jobs.specs.Below.{listed}
use Rattle.jobs.specs.Table.{jobs}
use Rattle.jobs.specs.Refusals.{Check, given, granted, first, cut_row, too_many_jobs, out_of_range, table_refusals}
use Rattle.jobs.specs.declared.refusal.Reason.TheVariants.{ShortBuffer, WrongPattern, TooManyFailures, TooLate}
use Rattle.jobs.specs.declared.refusal.Refusal.{Refusal}
use Rattle.frame.specs.Schedule.{finish, free_slots}
use Rattle.frame.specs.Latest.{sum}
use Rattle.frame.specs.Delays.{fault_free}

-- 5: buffer for finishes or delays shorter than n; place: n.
abbrev pub short_buffer : List ℕ → ℕ → Check
short_buffer table room = given (ltb room (jobs table)) ShortBuffer (jobs table)

-- 6: given pattern not of length n; place: n.
abbrev pub wrong_pattern : List ℕ → List ℕ → Check
wrong_pattern table pattern = given (not (eqb (length pattern) (jobs table))) WrongPattern (jobs table)

-- 7: exact sum of a given pattern over 8.
abbrev pub too_many_failures : List ℕ → Check
too_many_failures pattern = given (ltb 8 (sum pattern)) TooManyFailures 0

-- 9: a time asked of free slots over 10,000,000.
abbrev pub too_late : ℕ → ℕ → Check
too_late a b = given (ltb 10000000 a || ltb 10000000 b) TooLate 0

-- No lent buffer changes under a refusal.
abbrev pub unless : {A : Type 0} → Check → A → A → A
unless (Ok _) new old = new
unless (Err refusal) new old = old

-- Results fill the first n words of the lent buffer and leave the others.
unfoldable pub fill : ℕ → (ℕ → ℕ) → List ℕ → List ℕ
fill n result buffer = listed n result ++ drop n buffer

-- The order of refusals for schedule: 1, 2, 3, 6, 7, 5.
abbrev pub schedule_refusals : List ℕ → List ℕ → ℕ → List Check
schedule_refusals table pattern room =
    cut_row table ∷ too_many_jobs table ∷ out_of_range table
    ∷ wrong_pattern table pattern ∷ too_many_failures pattern ∷ short_buffer table room ∷ []

-- Schedule: finishes under a given pattern.
pub record Scheduled (table pattern before after : List ℕ) (answer : Check) : Type 0 where
  pub answers : answer ≡ first (schedule_refusals table pattern (length before))
  pub fills : after ≡ unless (first (schedule_refusals table pattern (length before))) (fill (jobs table) (finish table pattern) before) before

-- The fault-free finishes in an array of 64 words; all zeros for a table that is refused.
abbrev pub fault_free_finishes : List ℕ → List ℕ
fault_free_finishes table =
    let zeros : List ℕ = replicate 64 0 in
    unless (first (table_refusals table)) (fill (jobs table) (fault_free table) zeros) zeros

-- The order of refusals for free slots: 1, 2, 3, 9.
abbrev pub free_slots_refusals : List ℕ → ℕ → ℕ → List Check
free_slots_refusals table a b = cut_row table ∷ too_many_jobs table ∷ out_of_range table ∷ too_late a b ∷ []

-- Free slots: the count, or the refusal.
abbrev pub free_slots_answer : List ℕ → ℕ → ℕ → Result ℕ Refusal
free_slots_answer table a b = granted (first (free_slots_refusals table a b)) (free_slots table a b)
