-- The report on a job file, byte for byte.
use Rattle.std.specs.Prelude.{ℕ, min, ◌≡◌, Bool, true, false, List, [], ◌++◌, length, get_or, ltb, ℤ, codes}
use Rattle.std.proofs.Math.IntN.{sub_ℕ}
use Rattle.text.specs.Text.{decimal, labelled, signed, each, refusal, most_bytes, too_long, laid}
use Rattle.jobs.specs.Table.{jobs, deadline}
use Rattle.frame.specs.Latest.{latest, verdict}
use Rattle.frame.specs.Delays.{fault_free}
use Rattle.frame.specs.declared.Verdict.{Verdict}
use Rattle.frame.specs.declared.Verdict.TheVariants.{Sound, Miss}
use Rattle.judge.specs.Asks.{HandedFor}
use Rattle.jobfile.specs.Meaning.{Meaning, holds, refused, meaning}

-- Verdict and named job (sound: the word alone).
abbrev pub verdict_text : Verdict → List ℕ
verdict_text Sound = codes " sound"
verdict_text (Miss job time) = labelled " miss " job.0

-- First line: k, number of jobs, verdict and named job.
abbrev pub first_line : ℕ → ℕ → Verdict → List ℕ
first_line k n v = labelled "k " k ++ labelled " jobs " n ++ verdict_text v ++ codes "\n"

-- For each job its number, fault-free finish, latest finish, margin.
abbrev pub job_line : ℕ → ℕ → ℕ → ℤ → List ℕ
job_line job early late m = decimal job ++ labelled " " early ++ labelled " " late ++ codes " " ++ signed m ++ codes "\n"

-- The lines of the first n jobs, from their fault-free finishes and their latest finishes.
abbrev pub job_lines : List ℕ → (ℕ → ℕ) → (ℕ → ℕ) → ℕ → List ℕ
job_lines table early late n = each n (λ job. job_line job (early job) (late job) (sub_ℕ (deadline table job) (late job)))

-- The pattern line comes only on a miss and gives the judge's counts in job order.
abbrev pub pattern_line : ℕ → Verdict → List ℕ → List ℕ
pattern_line n Sound pattern = []
pattern_line n (Miss job time) pattern = codes "pattern" ++ each n (λ i. labelled " " (get_or pattern i 0)) ++ codes "\n"

-- The lines of a report, from the verdict, the finishes and a pattern.
abbrev pub lines : List ℕ → ℕ → Verdict → (ℕ → ℕ) → (ℕ → ℕ) → List ℕ → List ℕ
lines table k v early late pattern = first_line k (jobs table) v ++ job_lines table early late (jobs table) ++ pattern_line (jobs table) v pattern

-- The report on a table: its lines, with the pattern that the judge hands out in a buffer.
pub record Judges (table : List ℕ) (k : ℕ) (text : List ℕ) : Type 0 where
  pub buffer : List ℕ
  pub pattern : List ℕ
  pub handed : HandedFor table k (verdict table k) buffer pattern
  pub reads : text ≡ lines table k (verdict table k) (fault_free table) (latest table k) pattern

-- The texts that report on an input: too long, or what the file means.
abbrev pub Says : Bool → Meaning → List ℕ → Type 0
Says true m text = text ≡ too_long
Says false (refused r) text = text ≡ refusal r
Says false (holds table k) text = Judges table k text

-- Report: the text in the lent buffer, and how many bytes of it are there.
pub record Reports (file before : List ℕ) (answer : ℕ) (after : List ℕ) : Type 0 where
  pub text : List ℕ
  pub says : Says (ltb most_bytes (length file)) (meaning file) text
  pub answers : answer ≡ min (length text) (length before)
  pub fills : after ≡ laid text before
