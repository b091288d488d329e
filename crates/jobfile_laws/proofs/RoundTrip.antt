-- Reading what was written gives the table and k back. The head and each job that the writer writes are answered as such by the reader (head-again,
-- job-again), with the row that was written; so the walk passes them one after the other. Assumes nothing.
use Prim.Native.Nat.{ℕ, zero, suc, ◌+◌, ◌*◌, ◌^◌, ◌≤◌, ◌<◌}
use native.Mathlib.Omega.{arith}
use mathlib.Core.Path.{◌≡◌, refl, sym, ap, ◌∙◌}
use mathlib.Core.Bool.{false}
use mathlib.Core.List.{List, [], ◌∷◌, ◌++◌}
use lib.ListN.{length, get_or, take, drop, length-append, length-drop, take-append-drop}
use lib.Seq.{length-take-le, drop_at}
use lib.Dec.{lit<}
use borrow.Author.Tests.{ltb-false}
use Rattle.jobs.specs.Table.{row_words, jobs}
use Rattle.jobs.specs.Refusals.{fine, first, table_refusals, too_many_faults}
use Rattle.jobs.specs.declared.refusal.Reason.TheVariants.{TooManyFaults}
use Rattle.jobs.proofs.Refusals.{not-given, good}
use Rattle.jobfile.specs.Bytes.{number, words}
use Rattle.jobfile.specs.Meaning.{row_of, strays, holds, with_row, walk, headless_k, meaning}
use Rattle.jobfile.proofs.Records.{IsHead, IsJob, head_answers, job_answers}
use Rattle.jobfile.proofs.Walk.{walk_ends, walk-head, walk-job}
use Rattle.jobfile_write.specs.Writing.{bytes_of, word_bytes, head_bytes, job_bytes, jobs_bytes, file_of}
use Rattle.jobfile_write.proofs.Lengths.{head_bytes-length, word_bytes-length, job_bytes-length}
use Rattle.jobfile_laws.proofs.Digits.{take_below, words-word_bytes}
use Rattle.jobfile_laws.proofs.Ranges.{InRange, fine_in_range, rest_in_range, row_stays, word_fits}

-- ---- one record

pub head-again : (k : ℕ) (rest : List ℕ) → k ≤ 8 → IsHead (head_bytes k ++ rest) 0 k
unfolding head_bytes bytes_of number
head-again k rest h =
    record {
      whole = omega arith;
      long = refl;
      kind = refl;
      first = refl;
      faults = omega arith;
      few = h;
    }

pub row-again : (row rest : List ℕ) → length row ≡ row_words → ((i : ℕ) → get_or row i 0 < 256 ^ 4) → row_of (job_bytes row ++ rest) ≡ row
unfolding job_bytes bytes_of
row-again row rest e h = ap (λ (n : ℕ). words n (word_bytes row ++ rest)) (sym e) ∙ words-word_bytes row rest h

pub job-again : (row rest : List ℕ) (n : ℕ) → length row ≡ row_words → ((i : ℕ) → get_or row i 0 < 256 ^ 4) → strays row ≡ false → n < 64 → IsJob (job_bytes row ++ rest) n
unfolding job_bytes bytes_of number
job-again row rest n e h s few =
    record {
      whole = omega (arith, length-append (word_bytes row) rest, word_bytes-length row);
      long = refl;
      kind = refl;
      few = few;
      fits = ap strays (row-again row rest e h) ∙ s;
    }

-- ---- the jobs

jobs-again : (m : ℕ) (table : List ℕ) (at n k : ℕ) → length table ≡ m * row_words → n + m ≤ 64 → InRange table → walk (jobs_bytes m table) 0 at n k ≡ holds table k
unfolding jobs_bytes
jobs-again zero [] at n k e h r = walk_ends at n k
jobs-again zero (w ∷ table) at n k e h r = absurd (omega arith)
jobs-again (suc m) table at n k e h r =
    let row = take row_words table in
    let rest = jobs_bytes m (drop row_words table) in
    let long : length row ≡ row_words = length-take-le row_words table (omega arith) in
    let fits : (i : ℕ) → get_or row i 0 < 256 ^ 4 = take_below (256 ^ 4) row_words table (lit< tt) (word_fits table r) in
    let passed : drop 20 (job_bytes row ++ rest) ≡ rest = drop_at (job_bytes row) rest 20 (omega (arith, job_bytes-length row)) in
    walk-job (job_bytes row ++ rest) at n k (job_answers (job_bytes row ++ rest) at n (job-again row rest n long fits (row_stays table (omega arith) r) (omega arith)))
    ∙ ap (λ (l : List ℕ). with_row (row_of (job_bytes row ++ rest)) (walk l 0 (at + 20) (n + 1) k)) passed
    ∙ ap (with_row (row_of (job_bytes row ++ rest)))
    (jobs-again m (drop row_words table) (at + 20) (n + 1) k (omega (arith, length-drop row_words table)) (omega arith) (rest_in_range table r))
    ∙ ap (λ (l : List ℕ). holds (l ++ drop row_words table) k) (row-again row rest long fits)
    ∙ ap (λ (t : List ℕ). holds t k) (take-append-drop row_words table)

-- ---- the file

pub read_back : (table : List ℕ) (k : ℕ) → first (table_refusals table) ≡ fine → too_many_faults k ≡ fine → meaning (file_of table k) ≡ holds table k
unfolding meaning file_of
read_back table k not_refused few =
    let rest = jobs_bytes (jobs table) table in
    let small : k ≤ 8 = ltb-false _ _ (not-given _ TooManyFaults 0 few) in
    let g = good table not_refused in
    walk-head (head_bytes k ++ rest) 0 0 headless_k k (head_answers (head_bytes k ++ rest) 0 0 k (head-again k rest small))
    ∙ ap (λ (l : List ℕ). walk l 0 5 0 k) (drop_at (head_bytes k) rest 5 (head_bytes-length k))
    ∙ jobs-again (jobs table) table 5 0 k g.whole_rows (omega (arith, g.few_jobs)) (fine_in_range table not_refused)
