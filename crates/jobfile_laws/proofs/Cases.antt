-- 01's case 14, a file for each refusal, the empty file, and 64 and 65 jobs: a table of cases under a single statement, proved by computing.
-- Assumes nothing.
use Prim.Native.Nat.{ℕ, zero, suc}
use mathlib.Core.Path.{◌≡◌, refl}
use mathlib.Core.List.{List, [], ◌∷◌, ◌++◌}
use lib.ListN.{length, take}
use Rattle.jobs.specs.Below.{some, least}
use Rattle.std.specs.Prelude.{Result, Ok, Err}
use Rattle.jobs.specs.Refusals.{refused, granted, first}
use Rattle.jobs.specs.declared.refusal.Reason.{Reason}
use Rattle.jobs.specs.declared.refusal.Reason.TheVariants.{CutRecord, WrongLength, UnknownKind, LateHead, JobTooMany, StrayField, ShortTable, ShortFile, CutRow, TooManyJobs, OutOfRange, TooManyFaults}
use Rattle.jobs.specs.declared.refusal.Refusal.{Refusal}
use Rattle.jobfile.specs.Bytes.{number, words}
use Rattle.jobfile.specs.Meaning.{Meaning, holds, head_at, job_at, by_kind, record_at, walk, meaning, contents, answered}
use Rattle.jobfile.specs.declared.Contents.{Contents}
use Rattle.jobfile_write.specs.Writing.{bytes_of, word_bytes, head_bytes, job_bytes, jobs_bytes, file_of, write_refusals}

-- A file that is refused for a reason at a place.
abbrev pub bad : Reason → ℕ → Meaning
bad reason place = Meaning.refused (refused reason place)

pub data Case : Type 0 where
  -- what a file means
  means : List ℕ → Meaning → Case
  -- what reading a file answers for a table buffer of so many words
  reads : List ℕ → ℕ → Result Contents Refusal → Case
  -- the file of a table and k
  file : List ℕ → ℕ → List ℕ → Case
  -- what writing a table and k answers for a buffer of so many bytes
  writes : List ℕ → ℕ → ℕ → Result ℕ Refusal → Case

abbrev pub Holds : Case → Type 0
Holds (means bytes m) = meaning bytes ≡ m
Holds (reads bytes room answer) = answered (meaning bytes) room (length bytes) ≡ answer
Holds (file table k bytes) = file_of table k ≡ bytes
Holds (writes table k room answer) = granted (first (write_refusals table k room)) (length (file_of table k)) ≡ answer

abbrev pub AllHold : List Case → Type 0
AllHold [] = Unit {0}
AllHold (c ∷ cs) = Holds c × AllHold cs

-- A head, and the job (0, 2, 4, 1), in bytes; the job with C of 0; and a list so many times over.
abbrev pub head : ℕ → List ℕ
head k = 0x03 ∷ 0x00 ∷ 0x01 ∷ 0x00 ∷ k ∷ []

abbrev pub job : List ℕ
job =
    0x12 ∷ 0x00 ∷ 0x02 ∷ 0x00 ∷ 0x00 ∷ 0x00 ∷ 0x00 ∷ 0x00 ∷ 0x02 ∷ 0x00 ∷ 0x00 ∷ 0x00 ∷ 0x04 ∷ 0x00 ∷ 0x00 ∷ 0x00 ∷ 0x01 ∷ 0x00 ∷ 0x00 ∷ 0x00 ∷ []

abbrev no_run : List ℕ
no_run =
    0x12 ∷ 0x00 ∷ 0x02 ∷ 0x00 ∷ 0x00 ∷ 0x00 ∷ 0x00 ∷ 0x00 ∷ 0x00 ∷ 0x00 ∷ 0x00 ∷ 0x00 ∷ 0x04 ∷ 0x00 ∷ 0x00 ∷ 0x00 ∷ 0x01 ∷ 0x00 ∷ 0x00 ∷ 0x00 ∷ []

abbrev row : List ℕ
row = 0 ∷ 2 ∷ 4 ∷ 1 ∷ []

unfoldable pub times : ℕ → List ℕ → List ℕ
times zero xs = []
times (suc n) xs = xs ++ times n xs

abbrev pub cases : List Case
cases =
    -- case 14, with and without its last byte
    means (head 2 ++ job) (holds row 2)
    ∷ means (take 24 (head 2 ++ job)) (bad CutRecord 5)
    ∷ file row 2 (head 2 ++ job)
    -- no jobs: the empty file, and a head alone
    ∷ means [] (holds [] 2)
    ∷ means (head 2) (holds [] 2)
    ∷ file [] 0 (head 0)
    -- 20: fewer than 2 bytes left, or a record longer than the bytes left, also of an unknown kind
    ∷ means (0x12 ∷ []) (bad CutRecord 0)
    ∷ means (0x03 ∷ 0x00 ∷ 0x01 ∷ 0x00 ∷ []) (bad CutRecord 0)
    ∷ means (0x03 ∷ 0x00 ∷ 0x09 ∷ 0x00 ∷ []) (bad CutRecord 0)
    -- 21: length below 2, before the bytes left are tested; length wrong for the kind
    ∷ means (0x01 ∷ 0x00 ∷ []) (bad WrongLength 0)
    ∷ means (0x02 ∷ 0x00 ∷ 0x02 ∷ 0x00 ∷ []) (bad WrongLength 0)
    ∷ means (0x04 ∷ 0x00 ∷ 0x01 ∷ 0x00 ∷ 0x02 ∷ 0x00 ∷ []) (bad WrongLength 0)
    -- 22: an unknown kind, of length 2 too
    ∷ means (job ++ 0x02 ∷ 0x00 ∷ 0x03 ∷ 0x00 ∷ []) (bad UnknownKind 20)
    ∷ means (0x03 ∷ 0x00 ∷ 0x01 ∷ 0x01 ∷ 0x02 ∷ []) (bad UnknownKind 0)
    -- 23: a second head, also with k of 9; of wrong length it is 21
    ∷ means (head 2 ++ head 2) (bad LateHead 5)
    ∷ means (job ++ head 9) (bad LateHead 20)
    ∷ means (head 2 ++ 0x02 ∷ 0x00 ∷ 0x01 ∷ 0x00 ∷ []) (bad WrongLength 5)
    -- 25: k of 9, C of 0
    ∷ means (head 8) (holds [] 8)
    ∷ means (head 9) (bad StrayField 0)
    ∷ means (head 2 ++ job ++ no_run) (bad StrayField 25)
    -- 64 jobs, a 65th: 24, also with a bad value; cut off it is 20
    ∷ means (times 64 job) (holds (times 64 row) 2)
    ∷ means (times 65 job) (bad JobTooMany 1280)
    ∷ means (head 2 ++ times 64 job ++ no_run) (bad JobTooMany 1285)
    ∷ means (times 64 job ++ take 19 job) (bad CutRecord 1280)
    -- 26: the table buffer is short
    ∷ reads (head 2 ++ job) 4 (contents 1 2)
    ∷ reads (head 2 ++ job) 3 (Err (refused ShortTable 25))
    ∷ reads [] 0 (contents 0 2)
    -- numbers over 255
    ∷ file (1000000 ∷ 100000 ∷ 1900000 ∷ 100000 ∷ []) 8
    (head 8 ++ 0x12 ∷ 0x00 ∷ 0x02 ∷ 0x00 ∷ 0x40 ∷ 0x42 ∷ 0x0f ∷ 0x00 ∷ 0xa0 ∷ 0x86 ∷ 0x01 ∷ 0x00 ∷ 0xe0 ∷ 0xfd ∷ 0x1c ∷ 0x00 ∷ 0xa0 ∷ 0x86 ∷ 0x01 ∷ 0x00 ∷ [])
    -- writing: 1, 2, 3, 4, 28, in this order
    ∷ writes row 2 25 (Ok 25)
    ∷ writes row 2 24 (Err (refused ShortFile 25))
    ∷ writes row 9 0 (Err (refused TooManyFaults 0))
    ∷ writes (0 ∷ 0 ∷ 4 ∷ 1 ∷ []) 9 0 (Err (refused OutOfRange 1))
    ∷ writes (times 65 (0 ∷ 0 ∷ 4 ∷ 1 ∷ [])) 9 0 (Err (refused TooManyJobs 0))
    ∷ writes (0 ∷ 2 ∷ 4 ∷ []) 9 0 (Err (refused CutRow 3))
    ∷ writes (times 64 row) 8 1285 (Ok 1285)
    ∷ []

-- what computes in the cases
worked : ℕ
unfolding some least number words head_at job_at by_kind record_at walk meaning bytes_of word_bytes head_bytes job_bytes jobs_bytes file_of times
worked = 0

pub cases_hold : AllHold cases
unfolding worked
cases_hold = (refl, (refl, (refl, (refl, (refl, (refl, (refl, (refl, (refl, (refl, (refl, (refl, (refl, (refl, (refl, (refl, (refl, (refl, (refl, (refl, (refl, (refl, (refl, (refl, (refl, (refl, (refl, (refl, (refl, (refl, (refl, (refl, (refl, (refl, (refl, tt)))))))))))))))))))))))))))))))))))
