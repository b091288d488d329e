-- What may be asked of the judge, with the refusals and the final contents of the lent buffers.
use Rattle.std.specs.Prelude.{ℕ, ◌≡◌, not, List, [], ◌∷◌, ◌++◌, length, drop, ltb, Result, Ok, Err}
use Rattle.jobs.specs.Table.{jobs}
use Rattle.jobs.specs.Refusals.{Check, given, granted, first, cut_row, too_many_jobs, out_of_range, too_many_faults}
use Rattle.jobs.specs.declared.refusal.Reason.TheVariants.{WrongPattern, NoSuchJob}
use Rattle.jobs.specs.declared.refusal.Refusal.{Refusal}
use Rattle.frame.specs.Schedule.{finish}
use Rattle.frame.specs.Latest.{AtMost, latest, verdict}
use Rattle.frame.specs.declared.Verdict.{Verdict}
use Rattle.frame.specs.declared.Verdict.TheVariants.{Sound, Miss}
use Rattle.schedule.specs.Asks.{short_buffer, unless, fill}

-- 6: pattern buffer shorter than n; place: n.
abbrev pub short_pattern : List ℕ → ℕ → Check
short_pattern table room = given (ltb room (jobs table)) WrongPattern (jobs table)

-- 8: job number not below n.
abbrev pub no_such_job : List ℕ → ℕ → Check
no_such_job table job = given (not (ltb job (jobs table))) NoSuchJob 0

-- The order of refusals for judge: 1, 2, 3, 4, 5, 6.
abbrev pub judge_refusals : List ℕ → ℕ → ℕ → ℕ → List Check
judge_refusals table k finishes pattern =
    cut_row table ∷ too_many_jobs table ∷ out_of_range table
    ∷ too_many_faults k ∷ short_buffer table finishes ∷ short_pattern table pattern ∷ []

-- The order of refusals for the pattern of one job: 1, 2, 3, 4, 8, 6.
abbrev pub pattern_refusals : List ℕ → ℕ → ℕ → ℕ → List Check
pattern_refusals table k job pattern =
    cut_row table ∷ too_many_jobs table ∷ out_of_range table
    ∷ too_many_faults k ∷ no_such_job table job ∷ short_pattern table pattern ∷ []

-- What holds unless there is a refusal, and what holds then.
abbrev pub Unless : Check → Type 0 → Type 0 → Type 0
Unless (Ok _) new old = new
Unless (Err refusal) new old = old

-- A pattern that reaches a job's latest finish, of sum at most k, fills the first n words of the lent buffer.
pub record Handed (table : List ℕ) (k job : ℕ) (before after : List ℕ) : Type 0 where
  pub pattern : List ℕ
  pub at_most : AtMost (jobs table) k pattern
  pub reaches : finish table pattern job ≡ latest table k job
  pub fills : after ≡ pattern ++ drop (jobs table) before

-- On a miss the judge's pattern reaches the named job's latest finish; on sound it is all zeros.
abbrev pub HandedFor : List ℕ → ℕ → Verdict → List ℕ → List ℕ → Type 0
HandedFor table k Sound before after = after ≡ fill (jobs table) (λ job. 0) before
HandedFor table k (Miss job time) before after = Handed table k job.0 before after

-- Judge: verdict, latest finishes, and a pattern.
pub record Judging (table : List ℕ) (k : ℕ) (finishes finishes' pattern pattern' : List ℕ) (answer : Result Verdict Refusal) : Type 0 where
  pub answers : answer ≡ granted (first (judge_refusals table k (length finishes) (length pattern))) (verdict table k)
  pub fills : finishes' ≡ unless (first (judge_refusals table k (length finishes) (length pattern))) (fill (jobs table) (latest table k) finishes) finishes
  pub hands : Unless (first (judge_refusals table k (length finishes) (length pattern))) (HandedFor table k (verdict table k) pattern pattern') (pattern' ≡ pattern)

-- Pattern of one job: a pattern that reaches that job's latest finish.
pub record Reaching (table : List ℕ) (k job : ℕ) (pattern pattern' : List ℕ) (answer : Check) : Type 0 where
  pub answers : answer ≡ first (pattern_refusals table k job (length pattern))
  pub hands : Unless (first (pattern_refusals table k job (length pattern))) (Handed table k job pattern pattern') (pattern' ≡ pattern)
