-- A refused file is refused with a number from 20 to 25, at an offset inside the file: each test of a record gives one of these numbers and the record's
-- own offset, and the walk comes to a record only where bytes are left. Assumes nothing.
use Prim.Native.Nat.{ℕ, zero, suc, ◌+◌, ◌≤◌, ◌<◌}
use native.Mathlib.Omega.{arith}
use mathlib.Core.Path.{◌≡◌, refl, subst}
use mathlib.Core.Bool.{Bool, true, false, not}
use mathlib.Core.List.{List, [], ◌∷◌}
use lib.ListN.{length}
use lib.Dec.{ltb, leb, eqb, lit≤}
use Rattle.std.specs.Prelude.{Ok, Err}
use Rattle.jobs.specs.Refusals.{number}
use Rattle.jobs.specs.declared.refusal.Reason.{Reason}
use Rattle.jobs.specs.declared.refusal.Reason.TheVariants.{CutRecord, WrongLength, LateHead, JobTooMany, StrayField}
use Rattle.jobs.specs.declared.refusal.Refusal.{Refusal}
use Rattle.jobs.proofs.Below.{by_cases}
use Rattle.jobfile.specs.Meaning.{length_of, kind_of, faults_of, row_of, strays, Answer, refuse, head_at, job_at, by_kind, record_at, Meaning, holds, refused, with_row, walk, headless_k, meaning}
use Rattle.jobfile.specs.declared.Record.TheVariants.{Head, Job}
use Rattle.jobfile.proofs.Walk.{by-record}

-- ---- one record

-- a record's answer: if it refuses, with one of the numbers for a record and the record's offset
Numbered : ℕ → Answer → Type 0
Numbered at (Ok record_here) = Unit
Numbered at (Err refusal) = (20 ≤ number refusal.reason) × (number refusal.reason ≤ 25) × (refusal.place ≡ at)

-- one test, and what comes after it
tested : (test : Bool) (reason : Reason) (at : ℕ) (next : Answer) → 20 ≤ number reason → number reason ≤ 25 → Numbered at next → Numbered at (refuse test reason at next)
unfolding Numbered
tested true reason at next l h m = (l, h, refl)
tested false reason at next l h m = m

module _ (left : List ℕ) (at n : ℕ) where
  head_numbered : Numbered at (head_at left at)
  unfolding head_at Numbered
  head_numbered =
      tested (not (eqb (length_of left) 3)) WrongLength at
      (refuse (not (eqb at 0)) LateHead at (refuse (ltb 8 (faults_of left)) StrayField at (Ok (Head (faults_of left))))) (lit≤ tt) (lit≤ tt)
      (tested (not (eqb at 0)) LateHead at (refuse (ltb 8 (faults_of left)) StrayField at (Ok (Head (faults_of left)))) (lit≤ tt) (lit≤ tt)
      (tested (ltb 8 (faults_of left)) StrayField at (Ok (Head (faults_of left))) (lit≤ tt) (lit≤ tt) tt))

  job_numbered : Numbered at (job_at left at n)
  unfolding job_at Numbered
  job_numbered =
      tested (not (eqb (length_of left) 18)) WrongLength at (refuse (leb 64 n) JobTooMany at (refuse (strays (row_of left)) StrayField at (Ok Job))) (lit≤ tt) (lit≤ tt)
      (tested (leb 64 n) JobTooMany at (refuse (strays (row_of left)) StrayField at (Ok Job)) (lit≤ tt) (lit≤ tt)
      (tested (strays (row_of left)) StrayField at (Ok Job) (lit≤ tt) (lit≤ tt) tt))

  kind_numbered : Numbered at (by_kind (kind_of left) left at n)
  unfolding by_kind Numbered
  kind_numbered =
      by_cases (eqb (kind_of left) 1)
      (λ one. rw one head_numbered)
      (λ other. by_cases (eqb (kind_of left) 2) (λ two. rw (other, two) job_numbered) (λ none. rw (other, none) (lit≤ tt, lit≤ tt, refl)))

  record_numbered : Numbered at (record_at left at n)
  unfolding record_at
  record_numbered =
      let kind = by_kind (kind_of left) left at n in
      let whole = refuse (ltb (length left) (2 + length_of left)) CutRecord at kind in
      let long = refuse (ltb (length_of left) 2) WrongLength at whole in
      tested (ltb (length left) 2) CutRecord at long (lit≤ tt) (lit≤ tt)
      (tested (ltb (length_of left) 2) WrongLength at whole (lit≤ tt) (lit≤ tt)
      (tested (ltb (length left) (2 + length_of left)) CutRecord at kind (lit≤ tt) (lit≤ tt) kind_numbered))

-- ---- the walk

row_refused : (row : List ℕ) (m : Meaning) (refusal : Refusal) → with_row row m ≡ refused refusal → m ≡ refused refusal
row_refused row (holds table k) refusal e = let z : ◌≡◌ {A = ℕ} 0 1 = cc in absurd (omega arith)
row_refused row (refused r) refusal e = e

pub record InFile (refusal : Refusal) (size : ℕ) : Type 0 where
  pub low : 20 ≤ number refusal.reason
  pub high : number refusal.reason ≤ 25
  pub inside : refusal.place < size

walk_refused : (left : List ℕ) (pass at n k : ℕ) (refusal : Refusal) (size : ℕ) → at + length left ≡ size + pass → walk left pass at n k ≡ refused refusal → InFile refusal size
unfolding walk Numbered
walk_refused [] pass at n k refusal size l e = let z : ◌≡◌ {A = ℕ} 0 1 = cc in absurd (omega arith)
walk_refused (b ∷ left) (suc pass) at n k refusal size l e = walk_refused left pass at n k refusal size (omega arith) e
walk_refused (b ∷ left) zero at n k refusal size l e =
    by-record (record_at (b ∷ left) at n)
    (λ faults r. walk_refused left 4 (at + 5) n faults refusal size (omega arith) (rw (r, walk) at e))
    (λ r. walk_refused left 19 (at + 20) (n + 1) k refusal size (omega arith) (row_refused (row_of (b ∷ left)) _ refusal (rw (r, walk) at e)))
    (λ own r.
    let same : refused own ≡ refused refusal = rw (r, walk) at e in
    let own_is : own ≡ refusal = cc in
    let is : (20 ≤ number own.reason) × (number own.reason ≤ 25) × (own.place ≡ at) = rw r at (record_numbered (b ∷ left) at n) in
    subst (λ (x : Refusal). InFile x size) own_is (record { low = is.0; high = is.1; inside = omega (arith, is.2) }))

pub refused_in_file : (file : List ℕ) (refusal : Refusal) → meaning file ≡ refused refusal → InFile refusal (length file)
unfolding meaning
refused_in_file file refusal e = walk_refused file 0 0 0 headless_k refusal (length file) (omega arith) e
