-- The answers of the C interface, 64 bits each: the top byte is 0, or the refusal's number; the low 56 bits are the value, or the refusal's
-- place, capped at 2⁵⁶ − 1.
use Rattle.std.specs.Prelude.{ℕ, ◌+◌, ◌*◌, ◌-◌, ◌%◌, ◌^◌, min, ◌≡◌, Result, Ok, Err}
use Rattle.jobs.specs.Refusals.{number}
use Rattle.jobs.specs.declared.refusal.Refusal.{Refusal}
use Rattle.frame.specs.declared.Verdict.{Verdict}
use Rattle.frame.specs.declared.Verdict.TheVariants.{Sound, Miss}
use Rattle.jobfile.specs.declared.Contents.{Contents}

-- A number and a value or place in 64 bits.
abbrev pub packed : ℕ → ℕ → ℕ
packed number value = number % 256 * 2 ^ 56 + min value (2 ^ 56 - 1)

-- An answer in 64 bits: its value, or the refusal's number and place.
abbrev pub code : {A : Type 0} → (A → ℕ) → Result A Refusal → ℕ
code value (Ok answer) = packed 0 (value answer)
code value (Err refusal) = packed (number refusal.reason) refusal.place

-- Schedule, delays, pattern of one job: value 0.
abbrev pub no_value : Unit {0} → ℕ
no_value nothing = 0

-- Free slots: the count. Write: the length.
abbrev pub number_value : ℕ → ℕ
number_value count = count

-- Judge: 0 sound, 1 + job for a miss.
abbrev pub verdict_value : Verdict → ℕ
verdict_value Sound = 0
verdict_value (Miss job time) = job.0 + 1

-- Read: 256 × k + n.
abbrev pub contents_value : Contents → ℕ
contents_value contents = 256 * (contents.k % 256) + contents.n % 256

-- A 64-bit answer stands for an answer that the ask allows.
pub record Packs (A : Type 0) (code : A → ℕ) (asked : A → Type 0) (bits : ℕ) : Type 0 where
  pub answer : A
  pub allowed : asked answer
  pub stands : bits ≡ code answer
