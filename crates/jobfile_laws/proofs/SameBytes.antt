-- Writing what was read gives the same bytes exactly if the file had a head. A head and a job that were read are, byte for byte, what the writer writes of them
-- (head_bytes_lem, job_bytes_lem); so the jobs are got back, and the file is they alone, or they after its head. Assumes nothing.
use Prim.Native.Nat.{ℕ, zero, suc, ◌+◌, ◌*◌, ◌/◌, ◌≤◌}
use native.Mathlib.Nat.{mul-div_cancel}
use native.Mathlib.Omega.{arith}
use mathlib.Core.Path.{◌≡◌, refl, sym, ap, ◌∙◌, subst}
use mathlib.Core.Logic.{◌↔◌}
use mathlib.Core.Bool.{true, false, true≢false}
use mathlib.Core.List.{List, [], ◌∷◌, ◌++◌}
use lib.ListN.{length, take, drop, length-append, length-drop, take-append-drop}
use lib.Seq.{take_at, drop_at, take-add, drop-drop}
use lib.Dec.{ltb, lit<}
use borrow.Author.Tests.{ltb-true, ltb-false, le-ltb}
use Rattle.jobs.specs.Table.{row_words, jobs}
use Rattle.std.specs.Prelude.{Ok}
use Rattle.jobs.specs.Refusals.{fine, first, table_refusals, too_many_faults}
use Rattle.jobs.specs.declared.refusal.Reason.TheVariants.{TooManyFaults}
use Rattle.jobs.proofs.Below.{by_cases}
use Rattle.jobs.proofs.Refusals.{given-unless}
use Rattle.jobfile.specs.Meaning.{row_of, record_at, Meaning, holds, refused, with_row, walk, is_head, headed, headless_k, meaning}
use Rattle.jobfile.specs.declared.Record.TheVariants.{Head}
use Rattle.jobfile.proofs.Bytes.{row-length}
use Rattle.jobfile.proofs.Records.{IsHead, IsJob, as_head, as_job}
use Rattle.jobfile.proofs.Walk.{by-record, walk_ends, walk-head, walk-job, walk_bad}
use Rattle.jobfile.proofs.Filling.{headed_is}
use Rattle.jobfile_write.specs.Writing.{head_bytes, job_bytes, jobs_bytes, file_of}
use Rattle.jobfile_write.proofs.Lengths.{head_bytes-length}
use Rattle.jobfile_laws.proofs.Digits.{IsBytes, bytes_drop, bytes_back, word_bytes-words}
use Rattle.jobfile_laws.proofs.Ranges.{InRange, in_range_fine, more_in_range}

-- ---- one record

-- three parts of a list's start, one after the other
parts : (a b c : ℕ) (l : List ℕ) → take a l ++ (take b (drop a l) ++ take c (drop (a + b) l)) ≡ take (a + (b + c)) l
parts a b c l =
    ap (λ (r : List ℕ). take a l ++ r) (ap (λ (r : List ℕ). take b (drop a l) ++ take c r) (sym (drop-drop b a l)) ∙ sym (take-add b c (drop a l)))
    ∙ sym (take-add a (b + c) l)

head_bytes_lem : (left : List ℕ) (at k : ℕ) → IsBytes left → IsHead left at k → head_bytes k ≡ take 5 left
unfolding head_bytes
head_bytes_lem left at k h i =
    rw (
      bytes_back 2 3 left h (omega arith) i.long,
      bytes_back 2 1 (drop 2 left) (bytes_drop 2 left h) (omega (arith, length-drop 2 left)) i.kind,
      bytes_back 1 k (drop 4 left) (bytes_drop 4 left h) (omega (arith, length-drop 4 left)) i.faults,
    )
    (parts 2 2 1 left)

job_bytes_lem : (left : List ℕ) (n : ℕ) → IsBytes left → IsJob left n → job_bytes (row_of left) ≡ take 20 left
unfolding job_bytes
job_bytes_lem left n h i =
    rw (
      bytes_back 2 18 left h (omega arith) i.long,
      bytes_back 2 2 (drop 2 left) (bytes_drop 2 left h) (omega (arith, length-drop 2 left)) i.kind,
      word_bytes-words row_words (drop 4 left) (bytes_drop 4 left h) (omega (arith, length-drop 4 left)),
    )
    (parts 2 2 16 left)

-- ---- the jobs

-- the bytes are those of a table's jobs, and the table is one that is not refused
pub record JobsRead (left : List ℕ) (n : ℕ) (table : List ℕ) : Type 0 where
  pub count : ℕ
  pub long : length table ≡ count * row_words
  pub few : n + count ≤ 64
  pub fits : InRange table
  pub same : IsBytes left → left ≡ jobs_bytes count table

jobs_none : (n : ℕ) → n ≤ 64 → JobsRead [] n []
unfolding jobs_bytes
jobs_none n h = record { count = 0; long = refl; few = omega arith; fits = λ i l. absurd (omega arith); same = λ h. refl }

jobs_more : (left : List ℕ) (n : ℕ) (table : List ℕ) → IsJob left n → JobsRead (drop 20 left) (n + 1) table → JobsRead left n (row_of left ++ table)
unfolding jobs_bytes
jobs_more left n table i j =
    let row = row_of left in
    record {
      count = suc j.count;
      long = omega (arith, length-append row table, row-length left, j.long);
      few = omega (arith, j.few);
      fits = more_in_range row table (row-length left) i.fits j.fits;
      same = λ h.
          sym (take-append-drop 20 left)
          ∙ ap (λ (l : List ℕ). l ++ drop 20 left) (sym (job_bytes_lem left n h i))
          ∙ ap (λ (l : List ℕ). job_bytes row ++ l) (j.same (bytes_drop 20 left h))
          ∙ sym
          (ap (λ (l : List ℕ). job_bytes l ++ jobs_bytes j.count (drop row_words (row ++ table))) (take_at row table row_words (row-length left))
          ∙ ap (λ (l : List ℕ). job_bytes row ++ jobs_bytes j.count l) (drop_at row table row_words (row-length left)));
    }

-- a row before a meaning that holds a table
row_apart : (row : List ℕ) (m : Meaning) (table : List ℕ) (k : ℕ) → with_row row m ≡ holds table k → (rest : List ℕ) × (m ≡ holds rest k) × (row ++ rest ≡ table)
row_apart row (holds rest k') table k e = let same : k' ≡ k = cc in let all : row ++ rest ≡ table = cc in (rest, ap (holds rest) same, all)
row_apart row (refused refusal) table k e = let z : ◌≡◌ {A = ℕ} 0 1 = cc in absurd (omega arith)

nothing_left : (left : List ℕ) (at n k : ℕ) (table : List ℕ) (faults : ℕ) → length left ≤ 0 → n ≤ 64 → walk left 0 at n k ≡ holds table faults → (k ≡ faults) × JobsRead left n table
nothing_left [] at n k table faults l few e =
    let holds_none = walk_ends at n k in
    let same : k ≡ faults = cc in
    let none : [] ≡ table = cc in
    (same, subst (λ (t : List ℕ). JobsRead [] n t) none (jobs_none n few))
nothing_left (b ∷ left) at n k table faults l few e = absurd (omega arith)

-- with no head at hand, a walk that holds a table has passed its jobs
jobs_read : (fuel : ℕ) (left : List ℕ) (at n k : ℕ) (table : List ℕ) (faults : ℕ) → length left ≤ fuel → n ≤ 64
    → ((k' : ℕ) → record_at left at n ≡ Ok (Head k') → ⊥) → walk left 0 at n k ≡ holds table faults → (k ≡ faults) × JobsRead left n table
jobs_read zero left at n k table faults l few headless e = nothing_left left at n k table faults (omega arith) few e
jobs_read (suc fuel) left at n k table faults l few headless e =
    by_cases (ltb 0 (length left))
    (λ t.
    by-record (record_at left at n)
    (λ k' r. absurd (headless k' r))
    (λ r.
    let i = as_job left at n r in
    let rest = drop 20 left in
    let apart = row_apart (row_of left) (walk rest 0 (at + 20) (n + 1) k) table faults (sym (walk-job left at n k r) ∙ e) in
    let j = jobs_read fuel rest (at + 20) (n + 1) k apart.0 faults (omega (arith, length-drop 20 left)) (omega (arith, i.few))
    (λ k' q. let f = (as_head rest (at + 20) (n + 1) k' q).first in absurd (omega arith)) apart.1 in
    (j.0, subst (λ (t : List ℕ). JobsRead left n t) apart.2 (jobs_more left n apart.0 i j.1)))
    (λ refusal r.
    let bad = walk_bad left at n k refusal (ltb-true _ _ t) r in
    let z : ◌≡◌ {A = ℕ} 0 1 = cc in
    absurd (omega arith)))
    (λ t. nothing_left left at n k table faults (ltb-false _ _ t) few e)

-- ---- the file

not-headed : (file : List ℕ) → headed file ≡ false → (k : ℕ) → record_at file 0 0 ≡ Ok (Head k) → ⊥
not-headed file t k r = true≢false (ap is_head (sym r) ∙ t)

module _ (file table : List ℕ) (k : ℕ) (means : meaning file ≡ holds table k) where
  -- a file with a head: its k, and its jobs after the head
  after-head : headed file ≡ true → IsHead file 0 k × JobsRead (drop 5 file) 0 table
  unfolding meaning
  after-head t =
      let h = headed_is (record_at file 0 0) t in
      let i = as_head file 0 0 h.0 h.1 in
      let j = jobs_read (length (drop 5 file)) (drop 5 file) 5 0 h.0 table k (omega arith) (omega arith)
      (λ k' q. let f = (as_head (drop 5 file) 5 0 k' q).first in absurd (omega arith)) (sym (walk-head file 0 0 headless_k h.0 h.1) ∙ means) in
      (subst (λ (f : ℕ). IsHead file 0 f) j.0 i, j.1)

  -- a file without a head: jobs alone
  jobs_alone : headed file ≡ false → (headless_k ≡ k) × JobsRead file 0 table
  unfolding meaning
  jobs_alone t = jobs_read (length file) file 0 0 headless_k table k (omega arith) (omega arith) (not-headed file t) means

  count_is : (left : List ℕ) (j : JobsRead left 0 table) → j.count ≡ jobs table
  count_is left j = sym (ap (λ (l : ℕ). l / row_words) j.long ∙ mul-div_cancel j.count (lit< tt))

  -- What was read is not refused by 1, 2, 3 or 4
  pub read_table_fine : first (table_refusals table) ≡ fine
  read_table_fine =
      by_cases (headed file)
      (λ t. let j = (after-head t).1 in in_range_fine table j.count j.long (omega (arith, j.few)) j.fits)
      (λ t. let j = (jobs_alone t).1 in in_range_fine table j.count j.long (omega (arith, j.few)) j.fits)

  pub read_faults_fine : too_many_faults k ≡ fine
  read_faults_fine =
      by_cases (headed file)
      (λ t. given-unless TooManyFaults 0 (le-ltb _ _ (after-head t).0.few))
      (λ t. let rule = (jobs_alone t).0 in given-unless TooManyFaults 0 (le-ltb 8 k (omega arith)))

module _ (file table : List ℕ) (k : ℕ) (bytes : IsBytes file) (means : meaning file ≡ holds table k) where
  pub headed_same_bytes : headed file ≡ true → file_of table k ≡ file
  unfolding file_of
  headed_same_bytes t =
      let a = after-head file table k means t in
      ap (λ (l : List ℕ). l ++ jobs_bytes (jobs table) table) (head_bytes_lem file 0 k bytes a.0)
      ∙ ap (λ (l : List ℕ). take 5 file ++ l) (ap (λ (n : ℕ). jobs_bytes n table) (sym (count_is file table k means (drop 5 file) a.1)) ∙ sym (a.1.same (bytes_drop 5 file bytes)))
      ∙ take-append-drop 5 file

  -- a file without a head, after a head of any k, is what the writer writes of its table and that k
  pub headless_after-head : headed file ≡ false → (j : ℕ) → head_bytes j ++ file ≡ file_of table j
  unfolding file_of
  headless_after-head t j =
      let alone = (jobs_alone file table k means t).1 in
      ap (λ (l : List ℕ). head_bytes j ++ l) (alone.same bytes ∙ ap (λ (n : ℕ). jobs_bytes n table) (count_is file table k means file alone))

  pub headless_five_more : headed file ≡ false → length (file_of table k) ≡ length file + 5
  headless_five_more t = omega (arith, ap length (headless_after-head t k), length-append (head_bytes k) file, head_bytes-length k)

  -- writing what was read gives the same bytes exactly if the file had a head
  pub same_bytes_iff_headed : (file_of table k ≡ file) ↔ (headed file ≡ true)
  same_bytes_iff_headed = (
    (λ e. by_cases (headed file) (λ t. t) (λ t. absurd (omega (arith, ap length e, headless_five_more t)))),
    headed_same_bytes,
  )
