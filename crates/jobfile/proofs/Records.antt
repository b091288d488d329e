-- Laws of one record: its answer by the tests that it passes or fails, and what is known of a record that was answered with a head or a job.
-- Forwards each law rewrites the definition by the tests; backwards a test that does not refuse is false. Assumes nothing.
use Prim.Native.Nat.{ℕ, ◌+◌, ◌≤◌, ◌<◌}
use native.Mathlib.Omega.{arith}
use mathlib.Core.Path.{◌≡◌, refl, sym, ap, ◌∙◌}
use mathlib.Core.Bool.{Bool, true, false, not}
use mathlib.Core.List.{List}
use lib.ListN.{length}
use lib.Dec.{ltb, leb, eqb}
use borrow.Author.Tests.{eq-eqb, ne_eqb, eqb-true, not-false, lt-ltb, le-ltb, ltb-false, lt-leb, leb-false}
use Rattle.std.specs.Prelude.{Ok, Err}
use Rattle.jobs.specs.Refusals.{given, refused}
use Rattle.jobs.specs.declared.refusal.Reason.{Reason}
use Rattle.jobs.specs.declared.refusal.Reason.TheVariants.{CutRecord, WrongLength, UnknownKind}
use Rattle.jobs.specs.declared.refusal.Refusal.{Refusal}
use Rattle.jobs.proofs.Below.{by_cases}
use Rattle.jobs.proofs.Refusals.{refused_not_fine}
use Rattle.jobfile.specs.Meaning.{length_of, kind_of, faults_of, row_of, strays, Answer, bad, refuse, head_at, job_at, by_kind, record_at}
use Rattle.jobfile.specs.declared.Record.{Record}
use Rattle.jobfile.specs.declared.Record.TheVariants.{Head, Job}

-- a refusal that was given: its test holds, and what it is
pub is_given : (test : Bool) (reason : Reason) (place : ℕ) {refusal : Refusal} → given test reason place ≡ Err refusal → (test ≡ true) × (refusal ≡ refused reason place)
is_given true reason place e = (refl, cc)
is_given false reason place e = absurd (refused_not_fine (sym e))

module _ (left : List ℕ) (at n : ℕ) where
  pub too_few_bytes : length left < 2 → record_at left at n ≡ bad CutRecord at
  unfolding record_at
  too_few_bytes h = rw (lt-ltb _ _ h)

  pub length_below_two : 2 ≤ length left → length_of left < 2 → record_at left at n ≡ bad WrongLength at
  unfolding record_at
  length_below_two h l = rw (le-ltb _ _ h, lt-ltb _ _ l)

  pub cut_off : 2 ≤ length left → 2 ≤ length_of left → length left < 2 + length_of left → record_at left at n ≡ bad CutRecord at
  unfolding record_at
  cut_off h l m = rw (le-ltb _ _ h, le-ltb _ _ l, lt-ltb _ _ m)

  pub whole : 2 ≤ length_of left → 2 + length_of left ≤ length left → record_at left at n ≡ by_kind (kind_of left) left at n
  unfolding record_at
  whole l m = let h : 2 ≤ length left = omega arith in rw (le-ltb _ _ h, le-ltb _ _ l, le-ltb _ _ m)

  pub kind_one : kind_of left ≡ 1 → by_kind (kind_of left) left at n ≡ head_at left at
  unfolding by_kind
  kind_one e = rw (eq-eqb _ _ e)

  pub kind_two : kind_of left ≡ 2 → by_kind (kind_of left) left at n ≡ job_at left at n
  unfolding by_kind
  kind_two e = rw e

  pub kind_other : (kind_of left ≡ 1 → ⊥) → (kind_of left ≡ 2 → ⊥) → by_kind (kind_of left) left at n ≡ bad UnknownKind at
  unfolding by_kind
  kind_other p q = rw (ne_eqb _ _ p, ne_eqb _ _ q)

-- ---- backwards

-- a test that did not refuse is false, and what comes after it is the answer
not_bad : (b : Bool) (reason : Reason) (at : ℕ) (next : Answer) {good : Record} → refuse b reason at next ≡ Ok good → (b ≡ false) × (next ≡ Ok good)
not_bad true reason at next e = let z : ◌≡◌ {A = ℕ} 0 1 = cc in absurd (omega arith)
not_bad false reason at next e = (refl, e)

-- a head: its length, its kind, where it stands, and its k
pub record IsHead (left : List ℕ) (at k : ℕ) : Type 0 where
  pub whole : 5 ≤ length left
  pub long : length_of left ≡ 3
  pub kind : kind_of left ≡ 1
  pub first : at ≡ 0
  pub faults : faults_of left ≡ k
  pub few : k ≤ 8

-- a job: its length, its kind, that it is not the 65th, and that no field is outside its range
pub record IsJob (left : List ℕ) (n : ℕ) : Type 0 where
  pub whole : 20 ≤ length left
  pub long : length_of left ≡ 18
  pub kind : kind_of left ≡ 2
  pub few : n < 64
  pub fits : strays (row_of left) ≡ false

bad_not_good : (reason : Reason) (at : ℕ) {good : Record} → bad reason at ≡ Ok good → ⊥
bad_not_good reason at e = let z : ◌≡◌ {A = ℕ} 0 1 = cc in omega arith

job_no_head : (left : List ℕ) (at n k : ℕ) → job_at left at n ≡ Ok (Head k) → ⊥
unfolding job_at
job_no_head left at n k e =
    let long = not_bad (not (eqb (length_of left) 18)) _ _ _ e in
    let few = not_bad (leb 64 n) _ _ _ long.1 in
    let fits = not_bad (strays (row_of left)) _ _ _ few.1 in
    let z : ◌≡◌ {A = ℕ} 0 1 = cc in omega arith

head_no_job : (left : List ℕ) (at : ℕ) → head_at left at ≡ Ok Job → ⊥
unfolding head_at
head_no_job left at e =
    let long = not_bad (not (eqb (length_of left) 3)) _ _ _ e in
    let first = not_bad (not (eqb at 0)) _ _ _ long.1 in
    let few = not_bad (ltb 8 (faults_of left)) _ _ _ first.1 in
    let z : ◌≡◌ {A = ℕ} 0 1 = cc in omega arith

head_is : (left : List ℕ) (at k : ℕ) → 2 ≤ length_of left → 2 + length_of left ≤ length left → kind_of left ≡ 1 → head_at left at ≡ Ok (Head k) → IsHead left at k
unfolding head_at
head_is left at k l m kind e =
    let long = not_bad (not (eqb (length_of left) 3)) _ _ _ e in
    let first = not_bad (not (eqb at 0)) _ _ _ long.1 in
    let few = not_bad (ltb 8 (faults_of left)) _ _ _ first.1 in
    let three : length_of left ≡ 3 = eqb-true _ _ (not-false _ long.0) in
    let same : faults_of left ≡ k = cc in
    let most : faults_of left ≤ 8 = ltb-false _ _ few.0 in
    record {
      whole = omega arith;
      long = three;
      kind = kind;
      first = eqb-true _ _ (not-false _ first.0);
      faults = same;
      few = omega arith;
    }

job_is : (left : List ℕ) (at n : ℕ) → 2 ≤ length_of left → 2 + length_of left ≤ length left → kind_of left ≡ 2 → job_at left at n ≡ Ok Job → IsJob left n
unfolding job_at
job_is left at n l m kind e =
    let long = not_bad (not (eqb (length_of left) 18)) _ _ _ e in
    let few = not_bad (leb 64 n) _ _ _ long.1 in
    let fits = not_bad (strays (row_of left)) _ _ _ few.1 in
    let eighteen : length_of left ≡ 18 = eqb-true _ _ (not-false _ long.0) in
    record { whole = omega arith; long = eighteen; kind = kind; few = leb-false _ _ few.0; fits = fits.0 }

-- a good record is whole, and its kind gave the answer
by_its_kind : (left : List ℕ) (at n : ℕ) {good : Record} → record_at left at n ≡ Ok good
    → (2 ≤ length_of left) × (2 + length_of left ≤ length left) × (by_kind (kind_of left) left at n ≡ Ok good)
unfolding record_at
by_its_kind left at n e =
    let some_bytes = not_bad (ltb (length left) 2) _ _ _ e in
    let length_two = not_bad (ltb (length_of left) 2) _ _ _ some_bytes.1 in
    let all_there = not_bad (ltb (length left) (2 + length_of left)) _ _ _ length_two.1 in
    (ltb-false _ _ length_two.0, ltb-false _ _ all_there.0, all_there.1)

-- a record that was answered with a head is one
pub as_head : (left : List ℕ) (at n k : ℕ) → record_at left at n ≡ Ok (Head k) → IsHead left at k
unfolding by_kind
as_head left at n k e =
    let g = by_its_kind left at n e in
    by_cases (eqb (kind_of left) 1)
    (λ t. head_is left at k g.0 g.1 (eqb-true _ _ t) (rw t at g.2))
    (λ t. by_cases (eqb (kind_of left) 2)
    (λ u. absurd (job_no_head left at n k (rw (t, u) at g.2)))
    (λ u. absurd (bad_not_good UnknownKind at (rw (t, u) at g.2))))

-- a record that was answered with a job is one
pub as_job : (left : List ℕ) (at n : ℕ) → record_at left at n ≡ Ok Job → IsJob left n
unfolding by_kind
as_job left at n e =
    let g = by_its_kind left at n e in
    by_cases (eqb (kind_of left) 1)
    (λ t. absurd (head_no_job left at (rw t at g.2)))
    (λ t. by_cases (eqb (kind_of left) 2)
    (λ u. job_is left at n g.0 g.1 (eqb-true _ _ u) (rw (t, u) at g.2))
    (λ u. absurd (bad_not_good UnknownKind at (rw (t, u) at g.2))))

-- and what is one is answered so
pub head_answers : (left : List ℕ) (at n k : ℕ) → IsHead left at k → record_at left at n ≡ Ok (Head k)
unfolding head_at
head_answers left at n k i =
    let few : faults_of left ≤ 8 = omega arith in
    whole left at n (omega arith) (omega arith)
    ∙ kind_one left at n i.kind
    ∙ rw (eq-eqb _ _ i.long, eq-eqb _ _ i.first, le-ltb _ _ few) (ap (λ (k : ℕ). Ok (Head k)) i.faults)

pub job_answers : (left : List ℕ) (at n : ℕ) → IsJob left n → record_at left at n ≡ Ok Job
unfolding job_at
job_answers left at n i =
    whole left at n (omega arith) (omega arith)
    ∙ kind_two left at n i.kind
    ∙ rw (eq-eqb _ _ i.long, lt-leb _ _ i.few, i.fits)
