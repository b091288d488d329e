-- Laws of the reader: what it meets is the record at its place, and where it has passed that, one record more is passed. Assumes nothing.
use Prim.Native.Nat.{ℕ, ◌≤◌, ◌<◌}
use native.Mathlib.Omega.{arith}
use mathlib.Core.Path.{◌≡◌, refl}
use mathlib.Core.List.{List, ◌++◌}
use lib.ListN.{length, drop}
use lib.Dec.{leb}
use borrow.Author.Tests.{leb-true, leb-false}
use Rattle.std.specs.declared.option.Option.{Option}
use Rattle.jobs.specs.declared.refusal.Refusal.{Refusal}
use Rattle.jobfile.specs.declared.Reader.{Reader}
use Rattle.jobfile.specs.declared.Contents.{Contents}
use Rattle.std.specs.Prelude.{Some, None, Ok, Err}
use Rattle.jobs.proofs.Below.{by_cases}
use Rattle.jobfile.specs.Meaning.{row_of, Answer, record_at}
use Rattle.jobfile.specs.Reading.{met, at_after, with_record, told, Steps}
use Rattle.jobfile.specs.declared.Record.TheVariants.{Head, Job}
use Rattle.jobfile.proofs.Walk.{Passed, passed_head, passed_job}

module _ (file : List ℕ) (at n : ℕ) where
  -- a record that was met stands in the file
  pub met_is : {r : Answer} → Some r ≡ met file at n → (at < length file) × (record_at (drop at file) at n ≡ r)
  met_is e =
      by_cases (leb (length file) at)
      (λ t. let no = rw t at e in let z : ◌≡◌ {A = ℕ} 0 1 = cc in absurd (omega arith))
      (λ t. let yes = rw t at e in (leb-false _ _ t, cc))

  pub met_none : None ≡ met file at n → length file ≤ at
  met_none e =
      by_cases (leb (length file) at)
      (λ t. leb-true _ _ t)
      (λ t. let no = rw t at e in let z : ◌≡◌ {A = ℕ} 0 1 = cc in absurd (omega arith))

-- what was told is what was met
pub told_none : (m : Option Answer) (so_far : Contents) → None ≡ told m so_far → None ≡ m
told_none (Some (Ok good)) so_far e = let z : ◌≡◌ {A = ℕ} 0 1 = cc in absurd (omega arith)
told_none (Some (Err refusal)) so_far e = let z : ◌≡◌ {A = ℕ} 0 1 = cc in absurd (omega arith)
told_none None so_far e = refl

pub told_bad : (m : Option Answer) (so_far : Contents) (refusal : Refusal) → Some (Err refusal) ≡ told m so_far → Some (Err refusal) ≡ m
told_bad (Some (Ok good)) so_far refusal e = let z : ◌≡◌ {A = ℕ} 0 1 = cc in absurd (omega arith)
told_bad (Some (Err other)) so_far refusal e = let q : refusal ≡ other = cc in rw q refl
told_bad None so_far refusal e = let z : ◌≡◌ {A = ℕ} 0 1 = cc in absurd (omega arith)

-- a good record that was met is passed, and n and k with it are told
module _ (file : List ℕ) (at : ℕ) (so_far : Contents) (rows : List ℕ) (p : Passed file at so_far.n so_far.k rows) (c : Contents) where
  pub passed_told : (m : Option Answer) → m ≡ met file at so_far.n → Some (Ok c) ≡ told m so_far
      → (more : List ℕ) × Passed file (at_after m at (length file)) (with_record m so_far).n (with_record m so_far).k more × (c ≡ with_record m so_far)
  passed_told (Some (Ok (Head faults))) m e = (rows, passed_head file at so_far.n so_far.k rows p faults (met_is file at so_far.n m).1, cc)
  passed_told (Some (Ok Job)) m e = (rows ++ row_of (drop at file), passed_job file at so_far.n so_far.k rows p (met_is file at so_far.n m).1, cc)
  passed_told (Some (Err refusal)) m e = let z : ◌≡◌ {A = ℕ} 0 1 = cc in absurd (omega arith)
  passed_told None m e = let z : ◌≡◌ {A = ℕ} 0 1 = cc in absurd (omega arith)

-- the same of a step
pub passed_step : (before after : Reader) (rows : List ℕ) (c : Contents) → Passed before.file.now before.at before.contents.n before.contents.k rows
    → Steps before (Some (Ok c)) after → (more : List ℕ) × Passed after.file.now after.at after.contents.n after.contents.k more × (c ≡ after.contents)
passed_step before after rows c p s =
    let more = passed_told before.file.now before.at before.contents rows p c _ refl s.told in
    (more.0, rw (s.file, s.at, s.contents) more.1, rw s.contents more.2)
