-- What the crews of the older cameras need: the rewritten file, read by today's rule, means exactly what the old file meant by the old rule, and rewriting a second
-- time changes nothing. For the rewritten file is, byte for byte, the file that the writer writes for what the old one meant. Assumes nothing.
use Prim.Native.Nat.{ℕ, ◌≤◌}
use native.Mathlib.Omega.{arith}
use mathlib.Core.Path.{◌≡◌, refl, sym, ap, ◌∙◌}
use mathlib.Core.Logic.{◌↔◌}
use mathlib.Core.Bool.{Bool, true, false, cond}
use mathlib.Core.List.{List, ◌++◌}
use lib.ListN.{length, take, length-append}
use lib.Seq.{take_at}
use lib.Dec.{ltb}
use borrow.Author.Tests.{ltb-true, ltb-false, le-ltb}
use Rattle.text.specs.Text.{most_bytes, Adds}
use Rattle.text.proofs.Adding.{laid_whole, adds-all}
use Rattle.text.proofs.Lengths.{refusal_short}
use Rattle.jobs.specs.Table.{jobs}
use Rattle.std.specs.Prelude.{Result}
use Rattle.jobs.specs.Refusals.{fine, first, table_refusals}
use Rattle.jobs.specs.declared.refusal.Refusal.{Refusal}
use Rattle.jobs.specs.declared.refusal.Reason.TheVariants.{TooManyFaults}
use Rattle.jobs.proofs.Below.{by_cases}
use Rattle.jobs.proofs.Refusals.{good, given-unless, not-given}
use Rattle.jobfile.specs.Bytes.{over}
use Rattle.jobfile.specs.Meaning.{Meaning, holds, refused, is_head, headed, headless_k, meaning, contents, ReadsTo}
use Rattle.jobfile.specs.declared.Contents.{Contents}
use Rattle.jobfile.proofs.Records.{head_answers}
use Rattle.jobfile_write.specs.Writing.{head_bytes, jobs_bytes, file_of}
use Rattle.jobfile_write.proofs.Lengths.{file_of-length}
use Rattle.jobfile_laws.proofs.Digits.{IsBytes}
use Rattle.jobfile_laws.proofs.RoundTrip.{head-again, read_back}
use Rattle.jobfile_laws.proofs.SameBytes.{read_table_fine, read_faults_fine, headed_same_bytes, headless_after-head}
use Rattle.jobfile_laws.proofs.Refused.{refused_in_file}
use Rattle.jobfile_laws.proofs.Headless.{refused_by_either, holds_by_either}
use Rattle.rewrite_file.specs.Rewriting.{old_k, old_meaning, with_head, rewritten}
use Rattle.rewrite_file.proofs.Answers.{rewritten_long, rewritten_refused, rewritten_good}

-- ---- a file that is refused is so by both rules

pub refused_alike : (file : List ℕ) (r : Refusal) → (old_meaning file ≡ refused r) ↔ (meaning file ≡ refused r)
unfolding meaning
refused_alike file r = (refused_by_either file headless_k old_k r, refused_by_either file old_k headless_k r)

-- ---- a file that is not refused

written-headed : (table : List ℕ) (k : ℕ) → k ≤ 8 → headed (file_of table k) ≡ true
unfolding file_of
written-headed table k l =
    let rest = jobs_bytes (jobs table) table in
    ap is_head (head_answers (head_bytes k ++ rest) 0 0 k (head-again k rest l))

module _ (file table : List ℕ) (k : ℕ) (meant : old_meaning file ≡ holds table k) where
  -- by today's rule it holds the same table
  means : meaning file ≡ holds table (cond (headed file) k headless_k)
  unfolding meaning
  means = holds_by_either file headless_k old_k table k meant

  k_is : headed file ≡ false → k ≡ old_k
  k_is t =
      let again : holds table k ≡ holds table old_k = sym meant ∙ holds_by_either file old_k old_k table k meant ∙ ap (λ (h : Bool). holds table (cond h k old_k)) t in
      cc

  table_fine : first (table_refusals table) ≡ fine
  table_fine = read_table_fine file table (cond (headed file) k headless_k) means

  few : k ≤ 8
  few =
      by_cases (headed file)
      (λ t. ltb-false 8 k (not-given _ TooManyFaults 0 (read_faults_fine file table k (rw t at means))))
      (λ t. omega (arith, k_is t))

  module _ (bytes : IsBytes file) where
    with_head-written : with_head file ≡ file_of table k
    with_head-written =
        by_cases (headed file)
        (λ t. rw t (sym (headed_same_bytes file table k bytes (rw t at means) t)))
        (λ t. rw t (headless_after-head file table headless_k bytes (rw t at means) t old_k ∙ ap (file_of table) (sym (k_is t))))

    with_head_longer : length file ≤ length (with_head file)
    with_head_longer = by_cases (headed file) (λ t. rw t (omega arith)) (λ t. rw t (omega (arith, length-append (head_bytes old_k) file)))

    written_short : length (file_of table k) ≤ 1285
    written_short = omega (arith, file_of-length table k, (good table table_fine).few_jobs)

    short : length file ≤ 1285
    short = omega (arith, with_head_longer, ap length with_head-written, written_short)

    pub rewritten_is_written : rewritten file ≡ file_of table k
    rewritten_is_written = sym (rewritten_good file table _ (omega (arith, short)) means) ∙ with_head-written

    written_means : meaning (file_of table k) ≡ holds table k
    written_means = read_back table k table_fine (given-unless TooManyFaults 0 (le-ltb 8 k few))

    -- the rewritten file means by today's rule what the file meant by the old one
    pub rewritten_means : meaning (rewritten file) ≡ old_meaning file
    rewritten_means = ap meaning rewritten_is_written ∙ written_means ∙ sym meant

    -- rewriting a second time changes nothing
    pub rewritten-again : rewritten (rewritten file) ≡ rewritten file
    rewritten-again =
        ap rewritten rewritten_is_written
        ∙ sym (rewritten_good (file_of table k) table k (omega (arith, written_short)) written_means)
        ∙ ap (λ (h : Bool). cond h (file_of table k) (head_bytes old_k ++ file_of table k)) (written-headed table k few)
        ∙ sym rewritten_is_written

-- ---- no rewritten file, and no line in its place, is longer than 1,285 bytes

answer_short : (file : List ℕ) (m : Meaning) → IsBytes file → old_meaning file ≡ m → length file ≤ most_bytes → length (rewritten file) ≤ 1285
answer_short file (holds table k) bytes e l = omega (arith, ap length (rewritten_is_written file table k e bytes), written_short file table k e bytes)
answer_short file (refused r) bytes e l =
    let means = (refused_alike file r).0 e in
    let inside = refused_in_file file r means in
    omega (arith, ap length (rewritten_refused file r l means), (refusal_short r (omega (arith, inside.high)) (omega (arith, inside.inside))).few)

rewritten_short : (file : List ℕ) → IsBytes file → length (rewritten file) ≤ 1285
rewritten_short file bytes =
    by_cases (ltb most_bytes (length file))
    (λ e. omega (arith, ap length (rewritten_long file (ltb-true most_bytes (length file) e))))
    (λ e. answer_short file (old_meaning file) bytes refl (ltb-false most_bytes (length file) e))

-- A buffer of 1,285 bytes holds the whole.
pub rewrite_whole : (file before : List ℕ) (answer : ℕ) (after : List ℕ) → IsBytes file → 1285 ≤ length before → Adds (rewritten file) before 0 after answer
    → (answer ≡ length (rewritten file)) × (after ≡ over (rewritten file) before)
rewrite_whole file before answer after bytes l a =
    let fits = rewritten_short file bytes in
    let all = adds-all (rewritten file) before after answer a in
    (omega (arith, all.1), all.0 ∙ laid_whole (rewritten file) before (omega arith))

-- What `rewrite` leaves in such a buffer, read: the table and k that the file meant by the old rule.
pub read_what_was_rewritten : (file table : List ℕ) (k : ℕ) → old_meaning file ≡ holds table k → IsBytes file
    → (before : List ℕ) (answer : ℕ) (after : List ℕ) → 1285 ≤ length before → Adds (rewritten file) before 0 after answer
    → (room : List ℕ) (reading : Result Contents Refusal) (rows : List ℕ) → ReadsTo (take answer after) room reading rows → length table ≤ length room
    → (reading ≡ contents (jobs table) k) × (rows ≡ over table room)
read_what_was_rewritten file table k meant bytes before answer after l a room reading rows r h =
    let whole = rewrite_whole file before answer after bytes l a in
    let read : take answer after ≡ rewritten file = ap (take answer) whole.1 ∙ take_at (rewritten file) _ answer (sym whole.0) in
    let means : meaning (take answer after) ≡ holds table k = ap meaning read ∙ rewritten_means file table k meant bytes ∙ meant in
    (r.answers ∙ rw (means, le-ltb (length room) (length table) h), r.fills ∙ rw (means, le-ltb (length room) (length table) h))
