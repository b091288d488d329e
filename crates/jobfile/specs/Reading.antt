-- Where a reader stands after what it was given next. The reader's own functions say by it what they do; no promise of an ask rests on it.
use Rattle.std.specs.Prelude.{ℕ, ◌≡◌, ◌+◌, cond, List, length, drop, leb, Some, None, Result, Ok, Err}
use Rattle.std.specs.declared.option.Option.{Option}
use Rattle.jobfile.specs.declared.Record.TheVariants.{Head, Job}
use Rattle.jobs.specs.declared.refusal.Refusal.{Refusal}
use Rattle.jobfile.specs.declared.Contents.{Contents}
use Rattle.jobfile.specs.declared.Reader.{Reader}
use Rattle.jobfile.specs.Meaning.{Answer, record_at}

-- What a reader meets at an offset: a record, or the end of the file.
abbrev pub met : List ℕ → ℕ → ℕ → Option Answer
met file at n = cond (leb (length file) at) None (Some (record_at (drop at file) at n))

-- The offset of the record after it: a head or a job is passed, and a refusal ends the walk.
abbrev pub at_after : Option Answer → ℕ → ℕ → ℕ
at_after (Some (Ok (Head k))) at end = at + 5
at_after (Some (Ok Job)) at end = at + 20
at_after (Some (Err refusal)) at end = end
at_after None at end = at

-- The n and k with that record.
abbrev pub with_record : Option Answer → Contents → Contents
with_record (Some (Ok (Head faults))) so_far = record { n = so_far.n; k = faults }
with_record (Some (Ok Job)) so_far = record { n = so_far.n + 1; k = so_far.k }
with_record (Some (Err refusal)) so_far = so_far
with_record None so_far = so_far

-- What a reader gives: n and k with that record, or its refusal.
abbrev pub told : Option Answer → Contents → Option (Result Contents Refusal)
told (Some (Ok good)) so_far = Some (Ok (with_record (Some (Ok good)) so_far))
told (Some (Err refusal)) so_far = Some (Err refusal)
told None so_far = None

-- A step of a reader: what it gives, and where it stands after it.
pub record Steps (before : Reader) (given : Option (Result Contents Refusal)) (after : Reader) : Type 0 where
  pub told : given ≡ told (met before.file.now before.at before.contents.n) before.contents
  pub file : after.file ≡ before.file
  pub at : after.at ≡ at_after (met before.file.now before.at before.contents.n) before.at (length before.file.now)
  pub contents : after.contents ≡ with_record (met before.file.now before.at before.contents.n) before.contents
