-- What the k of a file without a head changes: nothing but that k. A head stands only at offset 0, so after the start of the file no record changes the k at
-- hand; and the tests of a record know nothing of it. Assumes nothing.
use Prim.Native.Nat.{ℕ, zero, suc, ◌+◌, ◌<◌}
use native.Mathlib.Omega.{arith}
use mathlib.Core.Path.{◌≡◌, refl, sym, ap, ◌∙◌}
use mathlib.Core.Bool.{cond}
use mathlib.Core.List.{List, [], ◌∷◌}
use Rattle.jobs.specs.declared.refusal.Refusal.{Refusal}
use Rattle.jobs.proofs.Below.{by_cases}
use Rattle.jobfile.specs.Meaning.{row_of, record_at, Meaning, holds, refused, with_row, walk, headed}
use Rattle.jobfile.proofs.Records.{as_head}
use Rattle.jobfile.proofs.Walk.{by-record, walk-head}

-- a meaning with another k
abbrev with_faults : ℕ → Meaning → Meaning
with_faults k (holds table faults) = holds table k
with_faults k (refused refusal) = refused refusal

row-with_faults : (row : List ℕ) (k : ℕ) (m : Meaning) → with_row row (with_faults k m) ≡ with_faults k (with_row row m)
row-with_faults row k (holds table faults) = refl
row-with_faults row k (refused refusal) = refl

-- after the start
walk-with_faults : (left : List ℕ) (pass at n j k : ℕ) → 0 < at → walk left pass at n j ≡ with_faults j (walk left pass at n k)
unfolding walk
walk-with_faults [] pass at n j k l = refl
walk-with_faults (b ∷ left) (suc pass) at n j k l = walk-with_faults left pass at n j k l
walk-with_faults (b ∷ left) zero at n j k l =
    by-record (record_at (b ∷ left) at n)
    (λ faults r. let first = (as_head (b ∷ left) at n faults r).first in absurd (omega arith))
    (λ r.
    rw (r, walk)
    (ap (with_row (row_of (b ∷ left))) (walk-with_faults left 19 (at + 20) (n + 1) j k (omega arith))
    ∙ row-with_faults (row_of (b ∷ left)) j (walk left 19 (at + 20) (n + 1) k)))
    (λ refusal r. rw (r, walk))

-- from the start, with a head and without one
either_rule : (file : List ℕ) (j k : ℕ) → walk file 0 0 0 j ≡ cond (headed file) (walk file 0 0 0 k) (with_faults j (walk file 0 0 0 k))
unfolding walk record_at
either_rule [] j k = refl
either_rule (b ∷ left) j k =
    by-record (record_at (b ∷ left) 0 0)
    (λ faults r. rw r (walk-head (b ∷ left) 0 0 j faults r ∙ sym (walk-head (b ∷ left) 0 0 k faults r)))
    (λ r.
    rw (r, walk)
    (ap (with_row (row_of (b ∷ left))) (walk-with_faults left 19 20 1 j k (omega arith)) ∙ row-with_faults (row_of (b ∷ left)) j (walk left 19 20 1 k)))
    (λ refusal r. rw (r, walk))

-- ---- two rules for a missing head

pub refused_by_either : (file : List ℕ) (j k : ℕ) (refusal : Refusal) → walk file 0 0 0 k ≡ refused refusal → walk file 0 0 0 j ≡ refused refusal
refused_by_either file j k refusal e = either_rule file j k ∙ by_cases (headed file) (λ t. rw (t, e)) (λ t. rw (t, e))

pub holds_by_either : (file : List ℕ) (j k : ℕ) (table : List ℕ) (faults : ℕ) → walk file 0 0 0 k ≡ holds table faults → walk file 0 0 0 j ≡ holds table (cond (headed file) faults j)
holds_by_either file j k table faults e = either_rule file j k ∙ by_cases (headed file) (λ t. rw (t, e)) (λ t. rw (t, e))
