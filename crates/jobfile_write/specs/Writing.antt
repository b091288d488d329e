-- The bytes of a table and k, and what writing them answers.
use Rattle.std.specs.Prelude.{ℕ, zero, suc, ◌/◌, ◌%◌, ◌≡◌, List, [], ◌∷◌, ◌++◌, length, take, drop, ltb, Result, Ok, Err}
use Rattle.jobs.specs.Table.{row_words, jobs}
use Rattle.jobs.specs.Refusals.{Check, given, granted, first, table_refusals, too_many_faults}
use Rattle.jobs.specs.declared.refusal.Reason.TheVariants.{ShortFile}
use Rattle.jobs.specs.declared.refusal.Refusal.{Refusal}
use Rattle.jobfile.specs.Bytes.{over}

-- A number as so many bytes.
unfoldable pub bytes_of : ℕ → ℕ → List ℕ
bytes_of zero x = []
bytes_of (suc width) x = x % 256 ∷ bytes_of width (x / 256)

-- These words as 32-bit numbers, one after the other.
unfoldable pub word_bytes : List ℕ → List ℕ
word_bytes [] = []
word_bytes (w ∷ ws) = bytes_of 4 w ++ word_bytes ws

-- A head: length 3, kind 1, one byte k.
unfoldable pub head_bytes : ℕ → List ℕ
head_bytes k = bytes_of 2 3 ++ (bytes_of 2 1 ++ bytes_of 1 k)

-- A job: length 18, kind 2, the row's words as 32-bit numbers.
unfoldable pub job_bytes : List ℕ → List ℕ
job_bytes row = bytes_of 2 18 ++ (bytes_of 2 2 ++ word_bytes row)

-- The first jobs of these words, so many of them, one record after the other.
unfoldable pub jobs_bytes : ℕ → List ℕ → List ℕ
jobs_bytes zero table = []
jobs_bytes (suc n) table = job_bytes (take row_words table) ++ jobs_bytes n (drop row_words table)

-- The writer always writes a head, then the jobs.
unfoldable pub file_of : List ℕ → ℕ → List ℕ
file_of table k = head_bytes k ++ jobs_bytes (jobs table) table

-- 28: write buffer shorter than the file; place: bytes needed.
abbrev pub no_room : List ℕ → ℕ → ℕ → Check
no_room table k room = given (ltb room (length (file_of table k))) ShortFile (length (file_of table k))

-- Write: 1, 2, 3, 4, 28.
abbrev pub write_refusals : List ℕ → ℕ → ℕ → List Check
write_refusals table k room = table_refusals table ++ too_many_faults k ∷ no_room table k room ∷ []

-- The buffer after writing: the file over its start, and as it was under a refusal.
abbrev pub written : Check → List ℕ → List ℕ → List ℕ
written (Ok _) file buffer = over file buffer
written (Err refusal) file buffer = buffer

-- Write a file: the answer, its length or the refusal, and the lent bytes at the end.
pub record WritesTo (table : List ℕ) (k : ℕ) (file : List ℕ) (answer : Result ℕ Refusal) (after : List ℕ) : Type 0 where
  pub answers : answer ≡ granted (first (write_refusals table k (length file))) (length (file_of table k))
  pub fills : after ≡ written (first (write_refusals table k (length file))) (file_of table k) file
