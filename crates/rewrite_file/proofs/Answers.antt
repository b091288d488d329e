-- What is written for an input that is too long, one that today's reader refuses, and one that it reads. A file is refused by the old rule exactly if it is by
-- today's; and of a good file the first byte tells whether it has a head, since a head's record has another length than a job's. Assumes nothing.
use Prim.Native.Nat.{ℕ, ◌≤◌, ◌<◌}
use native.Mathlib.Omega.{arith}
use mathlib.Core.Path.{◌≡◌, refl, sym, ap, ◌∙◌}
use mathlib.Core.Bool.{true, false}
use mathlib.Core.List.{List, [], ◌∷◌, ◌++◌}
use lib.ListN.{length, replicate}
use lib.Dec.{lit≤}
use Rattle.std.specs.Prelude.{nat_eq}
use Rattle.std.specs.List.{starts_with}
use borrow.Author.Tests.{lt-ltb, le-ltb, eq-eqb, ne_eqb}
use Rattle.text.specs.Text.{refusal, most_bytes, too_long}
use Rattle.jobfile.specs.Bytes.{number}
use Rattle.jobfile.specs.Meaning.{record_at, holds, refused, is_head, headed, headless_k, meaning, contents, Good, ReadsTo}
use Rattle.jobfile.specs.declared.Contents.{Contents}
use Rattle.std.specs.Prelude.{Result, Err}
use Rattle.jobs.specs.declared.refusal.Refusal.{Refusal}
use Rattle.jobfile.proofs.Records.{as_head, as_job}
use Rattle.jobfile.proofs.Walk.{by-record, walk_bad, good_file}
use Rattle.jobfile_write.specs.Writing.{bytes_of, head_bytes}
use Rattle.jobfile_laws.proofs.Promises.{refusal_read}
use Rattle.jobfile_laws.proofs.Headless.{refused_by_either, holds_by_either}
use Rattle.rewrite_file.specs.Rewriting.{old_k, with_head, rewritten}

-- ---- the answers

module _ (file : List ℕ) where
  pub rewritten_long : most_bytes < length file → too_long ≡ rewritten file
  unfolding rewritten
  rewritten_long l = rw (lt-ltb most_bytes (length file) l)

  pub rewritten_refused : (r : Refusal) → length file ≤ most_bytes → meaning file ≡ refused r → refusal r ≡ rewritten file
  unfolding rewritten meaning
  rewritten_refused r l e = rw (le-ltb most_bytes (length file) l, refused_by_either file old_k headless_k r e)

  pub rewritten_good : (table : List ℕ) (k : ℕ) → length file ≤ most_bytes → meaning file ≡ holds table k → with_head file ≡ rewritten file
  unfolding rewritten meaning
  rewritten_good table k l e = rw (le-ltb most_bytes (length file) l, holds_by_either file old_k headless_k table k e)

-- ---- what reading says of the file, with room for every table

module _ (file : List ℕ) (answer : Result Contents Refusal) (table : List ℕ) (read : ReadsTo file (replicate 256 0) answer table) where
  pub read_refused : (r : Refusal) → answer ≡ Err r → meaning file ≡ refused r
  read_refused r e = refusal_read file (replicate 256 0) r table (lit≤ tt) (rw e at read)

  pub read_good : (n k : ℕ) → answer ≡ contents n k → Good file 256
  read_good n k e = good_file file 256 (length file) n k (sym read.answers ∙ e)

-- ---- whether a good file has a head, and the file with one

pub headed-first_byte : (file : List ℕ) (room : ℕ) → Good file room → starts_with nat_eq file (3 ∷ []) ≡ headed file
unfolding number meaning record_at
headed-first_byte [] room good = refl
headed-first_byte (b ∷ left) room good =
    by-record (record_at (b ∷ left) 0 0)
    (λ k r. rw (eq-eqb 3 b (omega (arith, (as_head (b ∷ left) 0 0 k r).long))) (sym (ap is_head r)))
    (λ r. rw (ne_eqb 3 b (λ e. omega (arith, (as_job (b ∷ left) 0 0 r).long))) (sym (ap is_head r)))
    (λ own r.
    let bad = walk_bad (b ∷ left) 0 0 headless_k own (omega arith) r in
    let means = good.means in
    let z : ◌≡◌ {A = ℕ} 0 1 = cc in
    absurd (omega arith))

pub head_stays : (file : List ℕ) → headed file ≡ true → file ≡ with_head file
head_stays file t = rw t

pub head_added : (file : List ℕ) → headed file ≡ false → (3 ∷ 0 ∷ 1 ∷ 0 ∷ 1 ∷ []) ++ file ≡ with_head file
unfolding head_bytes bytes_of
head_added file t = rw t
