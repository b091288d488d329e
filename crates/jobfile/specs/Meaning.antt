-- The meaning of a job file: its table and its k, or the first refusal with its offset.
--
-- A record is a 16-bit length, a 16-bit kind and a body, all little-endian. Everything here is over the bytes that are left, with the record at hand
-- first; its offset `at` and the number n of jobs before it stand beside them.
use Rattle.std.specs.Prelude.{ℕ, zero, suc, ◌+◌, ◌≤◌, ◌≡◌, Bool, true, false, not, cond, List, [], ◌∷◌, ◌++◌, length, get_or, drop, ltb, leb, eqb, Result, Ok, Err}
use Rattle.jobs.specs.Below.{some}
use Rattle.jobs.specs.Table.{row_words, jobs, in_range}
use Rattle.jobs.specs.declared.refusal.Reason.{Reason}
use Rattle.jobs.specs.declared.refusal.Reason.TheVariants.{CutRecord, WrongLength, UnknownKind, LateHead, JobTooMany, StrayField, ShortTable}
use Rattle.jobs.specs.declared.refusal.Refusal.{Refusal}
use Rattle.jobfile.specs.Bytes.{number_at, words, over}
use Rattle.jobfile.specs.declared.Record.{Record}
use Rattle.jobfile.specs.declared.Record.TheVariants.{Head, Job}
use Rattle.jobfile.specs.declared.Contents.{Contents}

-- The length of a record counts kind and body.
abbrev pub length_of : List ℕ → ℕ
length_of left = number_at 2 0 left

-- The kind stands after the length.
abbrev pub kind_of : List ℕ → ℕ
kind_of left = number_at 2 2 left

-- A head's body: one byte k.
abbrev pub faults_of : List ℕ → ℕ
faults_of left = number_at 1 4 left

-- A job's body: R, C, D, V as 32-bit numbers.
abbrev pub row_of : List ℕ → List ℕ
row_of left = words row_words (drop 4 left)

-- Whether a field of a row is outside its range.
abbrev pub strays : List ℕ → Bool
strays row = some row_words (λ field. not (in_range field (get_or row field 0)))

-- What a record is answered with: a head or a job, or a refusal.
abbrev pub Answer : Type 0
Answer = Result Record Refusal

-- A refusal with its reason and the record's offset.
abbrev pub bad : Reason → ℕ → Answer
bad reason at = Err (record { reason = reason; place = at })

-- A refusal if the test holds, and else what comes after it.
abbrev pub refuse : Bool → Reason → ℕ → Answer → Answer
refuse test reason at next = cond test (bad reason at) next

-- Kind 1, head: one byte k; length 3. Refused: 21 length wrong, 23 not at offset 0, 25 k outside its range.
unfoldable pub head_at : List ℕ → ℕ → Answer
head_at left at =
    refuse (not (eqb (length_of left) 3)) WrongLength at
    (refuse (not (eqb at 0)) LateHead at
    (refuse (ltb 8 (faults_of left)) StrayField at
    (Ok (Head (faults_of left)))))

-- Kind 2, job: R, C, D, V as 32-bit numbers; length 18. Refused: 21 length wrong, 24 a 65th job, 25 a value outside its range.
unfoldable pub job_at : List ℕ → ℕ → ℕ → Answer
job_at left at n =
    refuse (not (eqb (length_of left) 18)) WrongLength at
    (refuse (leb 64 n) JobTooMany at
    (refuse (strays (row_of left)) StrayField at
    (Ok Job)))

-- 1, 2, and every other kind is refused: 22.
unfoldable pub by_kind : ℕ → List ℕ → ℕ → ℕ → Answer
by_kind kind left at n = cond (eqb kind 1) (head_at left at) (cond (eqb kind 2) (job_at left at n) (bad UnknownKind at))

-- The tests of a record: fewer than 2 bytes left, 20; length below 2, 21; record longer than the bytes left, 20; then by its kind.
unfoldable pub record_at : List ℕ → ℕ → ℕ → Answer
record_at left at n =
    refuse (ltb (length left) 2) CutRecord at
    (refuse (ltb (length_of left) 2) WrongLength at
    (refuse (ltb (length left) (2 + length_of left)) CutRecord at
    (by_kind (kind_of left) left at n)))

-- What a file is: a table and k, or refused.
pub data Meaning : Type 0 where
  holds : List ℕ → ℕ → Meaning
  refused : Refusal → Meaning

-- A row, and after it what the rest of the file is.
abbrev pub with_row : List ℕ → Meaning → Meaning
with_row row (holds table k) = holds (row ++ table) k
with_row row (refused refusal) = refused refusal

-- The walk over the records, front to back; so many bytes of the record at hand are still to pass. The first refusal met ends it.
unfoldable pub walk : List ℕ → ℕ → ℕ → ℕ → ℕ → Meaning
walk [] pass at n k = holds [] k
walk (b ∷ left) (suc pass) at n k = walk left pass at n k
walk (b ∷ left) zero at n k =
    elim (record_at (b ∷ left) at n) [
      | Ok (Head faults) ↦ walk left 4 (at + 5) n faults
      | Ok Job ↦ with_row (row_of (b ∷ left)) (walk left 19 (at + 20) (n + 1) k)
      | Err refusal ↦ refused refusal
    ]

-- Whether a record is a head.
abbrev pub is_head : Answer → Bool
is_head (Ok (Head faults)) = true
is_head (Ok Job) = false
is_head (Err refusal) = false

-- Whether a file has a head: at most one, first.
abbrev pub headed : List ℕ → Bool
headed file = is_head (record_at file 0 0)

-- The k of a file without a head.
abbrev pub headless_k : ℕ
headless_k = 2

-- The meaning of a file: the walk from its start, with no job before it.
unfoldable pub meaning : List ℕ → Meaning
meaning file = walk file 0 0 0 headless_k

-- A good file, and room for its table.
pub record Good (file : List ℕ) (room : ℕ) : Type 0 where
  pub table : List ℕ
  pub k : ℕ
  pub means : meaning file ≡ holds table k
  pub fits : length table ≤ room

-- A file that is not refused: n and k.
abbrev pub contents : ℕ → ℕ → Result Contents Refusal
contents n k = Ok (record { n = n; k = k })

-- What reading answers for a buffer of so many words: n and k, or the refusal; 26 after all records, with the file's length as place.
abbrev pub answered : Meaning → ℕ → ℕ → Result Contents Refusal
answered (holds table k) room size = cond (ltb room (length table)) (Err (record { reason = ShortTable; place = size })) (contents (jobs table) k)
answered (refused refusal) room size = Err refusal

-- The buffer after reading: the rows over its start, and as it was under a refusal.
abbrev pub filled : Meaning → List ℕ → List ℕ
filled (holds table k) buffer = cond (ltb (length buffer) (length table)) buffer (over table buffer)
filled (refused refusal) buffer = buffer

-- Read a file: the answer, and the table buffer at the end.
pub record ReadsTo (file table : List ℕ) (answer : Result Contents Refusal) (after : List ℕ) : Type 0 where
  pub answers : answer ≡ answered (meaning file) (length table) (length file)
  pub fills : after ≡ filled (meaning file) table
