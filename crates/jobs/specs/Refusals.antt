-- Numbered refusals: a refusal has its number and a place. Where several apply, the first of an ask's order is given.
use Rattle.std.specs.Prelude.{ℕ, ◌%◌, Bool, not, cond, List, [], ◌∷◌, length, get_or, ltb, eqb, Result, Ok, Err}
use Rattle.jobs.specs.Below.{least}
use Rattle.jobs.specs.Table.{row_words, jobs, in_range}
use Rattle.jobs.specs.declared.refusal.Reason.{Reason}
use Rattle.jobs.specs.declared.refusal.Reason.TheVariants.{CutRow, TooManyJobs, OutOfRange, TooManyFaults, ShortBuffer, WrongPattern, TooManyFailures, NoSuchJob, TooLate, CutRecord, WrongLength, UnknownKind, LateHead, JobTooMany, StrayField, ShortTable, ShortFile}
use Rattle.jobs.specs.declared.refusal.Refusal.{Refusal}

-- A reason's number.
abbrev pub number : Reason → ℕ
number CutRow = 1
number TooManyJobs = 2
number OutOfRange = 3
number TooManyFaults = 4
number ShortBuffer = 5
number WrongPattern = 6
number TooManyFailures = 7
number NoSuchJob = 8
number TooLate = 9
number CutRecord = 20
number WrongLength = 21
number UnknownKind = 22
number LateHead = 23
number JobTooMany = 24
number StrayField = 25
number ShortTable = 26
number ShortFile = 28

-- A refusal for a reason at a place.
abbrev pub refused : Reason → ℕ → Refusal
refused reason place = record { reason = reason; place = place }

-- What a check comes to: fine, or refused.
abbrev pub Check : Type 0
Check = Result (Unit {0}) Refusal

-- Nothing to refuse.
abbrev pub fine : Check
fine = Ok tt

-- A refusal that is given exactly when the test holds.
abbrev pub given : Bool → Reason → ℕ → Check
given test reason place = cond test (Err (refused reason place)) fine

-- One check, and after it another if that was fine.
abbrev pub after : Check → Check → Check
after (Ok _) next = next
after (Err refusal) next = Err refusal

-- The first of these that is a refusal.
abbrev pub first : List Check → Check
first [] = fine
first (c ∷ cs) = after c (first cs)

-- A value, unless there is a refusal.
abbrev pub granted : {A : Type 0} → Check → A → Result A Refusal
granted (Ok _) value = Ok value
granted (Err refusal) value = Err refusal

-- 1: table length not a multiple of 4; place: length.
abbrev pub cut_row : List ℕ → Check
cut_row table = given (not (eqb (length table % row_words) 0)) CutRow (length table)

-- 2: more than 64 jobs.
abbrev pub too_many_jobs : List ℕ → Check
too_many_jobs table = given (ltb 64 (jobs table)) TooManyJobs 0

-- 3: a field outside its range; place: index of the first such word.
abbrev pub out_of_range : List ℕ → Check
out_of_range table =
    let word = least (length table) (λ i. not (in_range (i % row_words) (get_or table i 0))) in
    given (ltb word (length table)) OutOfRange word

-- 4: k over 8.
abbrev pub too_many_faults : ℕ → Check
too_many_faults k = given (ltb 8 k) TooManyFaults 0

-- The refusals of a table, first in the order of every ask.
abbrev pub table_refusals : List ℕ → List Check
table_refusals table = cut_row table ∷ too_many_jobs table ∷ out_of_range table ∷ []
