-- Laws of the bytes that are written: how many they are, and one word and one job more at the end. Each is an induction. Assumes nothing.
use Prim.Native.Nat.{ℕ, zero, suc, ◌+◌, ◌*◌, ◌≤◌, ◌<◌}
use native.Mathlib.Numerals.{add-one}
use native.Mathlib.Omega.{arith}
use mathlib.Core.Path.{◌≡◌, refl, sym, ap, ◌∙◌}
use mathlib.Core.List.{List, [], ◌∷◌, ◌++◌, append_assoc, append-nil}
use lib.ListN.{length, get_or, take, drop, length-append, length-drop}
use lib.Seq.{length-take-le, take-suc, drop-drop}
use native.Mathlib.Nat.{div-mul-le_self, div-div-eq-div-mul}
use Rattle.std.specs.Int.{w16, w32, to_le_bytes}
use Rattle.jobs.specs.Table.{row_words, jobs}
use Rattle.jobfile_write.specs.Writing.{bytes_of, word_bytes, head_bytes, job_bytes, jobs_bytes, file_of}

pub bytes_of-length : (width x : ℕ) → length (bytes_of width x) ≡ width
unfolding bytes_of
bytes_of-length zero x = refl
bytes_of-length (suc width) x = ap suc (bytes_of-length width _)

pub word_bytes-length : (ws : List ℕ) → length (word_bytes ws) ≡ 4 * length ws
unfolding word_bytes
word_bytes-length [] = refl
word_bytes-length (w ∷ ws) = omega (arith, length-append (bytes_of 4 w) (word_bytes ws), bytes_of-length 4 w, word_bytes-length ws)

pub word_bytes-append : (xs ys : List ℕ) → word_bytes (xs ++ ys) ≡ word_bytes xs ++ word_bytes ys
unfolding word_bytes
word_bytes-append [] ys = refl
word_bytes-append (x ∷ xs) ys =
    ap (λ (l : List ℕ). bytes_of 4 x ++ l) (word_bytes-append xs ys) ∙ sym (append_assoc (bytes_of 4 x) (word_bytes xs) (word_bytes ys))

pub word_bytes_one : (w : ℕ) → word_bytes (w ∷ []) ≡ bytes_of 4 w
unfolding word_bytes
word_bytes_one w = append-nil (bytes_of 4 w)

-- one word more
pub word_bytes_more : (row : List ℕ) (i : ℕ) → i < length row → word_bytes (take (i + 1) row) ≡ word_bytes (take i row) ++ bytes_of 4 (get_or row i 0)
word_bytes_more row i h =
    ap word_bytes (ap (λ (j : ℕ). take j row) (add-one i) ∙ take-suc row i 0 h)
    ∙ word_bytes-append (take i row) (get_or row i 0 ∷ [])
    ∙ ap (λ (l : List ℕ). word_bytes (take i row) ++ l) (word_bytes_one (get_or row i 0))

-- what std writes of a number
pub two_bytes : (x : ℕ) → to_le_bytes w16 x ≡ bytes_of 2 x
unfolding bytes_of
two_bytes x = refl

pub four_bytes : (x : ℕ) → to_le_bytes w32 x ≡ bytes_of 4 x
unfolding bytes_of
four_bytes x = simp div-div-eq-div-mul

pub head_bytes-length : (k : ℕ) → length (head_bytes k) ≡ 5
unfolding head_bytes bytes_of
head_bytes-length k = refl

pub job_bytes-length : (row : List ℕ) → length (job_bytes row) ≡ 4 + 4 * length row
unfolding job_bytes bytes_of
job_bytes-length row = omega (arith, word_bytes-length row)

pub jobs_bytes-length : (n : ℕ) (table : List ℕ) → n * row_words ≤ length table → length (jobs_bytes n table) ≡ n * 20
unfolding jobs_bytes
jobs_bytes-length zero table h = refl
jobs_bytes-length (suc n) table h =
    omega (
      arith,
      length-append (job_bytes (take row_words table)) (jobs_bytes n (drop row_words table)),
      job_bytes-length (take row_words table),
      length-take-le row_words table (omega arith),
      jobs_bytes-length n (drop row_words table) (omega (arith, length-drop row_words table)),
    )

-- one job more
pub jobs_bytes_more : (n : ℕ) (table : List ℕ) → jobs_bytes (n + 1) table ≡ jobs_bytes n table ++ job_bytes (take row_words (drop (n * row_words) table))
unfolding jobs_bytes
jobs_bytes_more zero table = append-nil (job_bytes (take row_words table))
jobs_bytes_more (suc n) table =
    ap (λ (m : ℕ). jobs_bytes m table) (add-one (suc n))
    ∙ ap (λ (l : List ℕ). job_bytes (take row_words table) ++ l)
    (ap (λ (m : ℕ). jobs_bytes m (drop row_words table)) (sym (add-one n))
    ∙ jobs_bytes_more n (drop row_words table)
    ∙ ap (λ (l : List ℕ). jobs_bytes n (drop row_words table) ++ job_bytes (take row_words l)) (drop-drop (n * row_words) row_words table ∙ ap (λ (m : ℕ). drop m table) (next n)))
    ∙ sym (append_assoc (job_bytes (take row_words table)) (jobs_bytes n (drop row_words table)) (job_bytes (take row_words (drop (suc n * row_words) table))))
  where
    next : (n : ℕ) → row_words + n * row_words ≡ suc n * row_words
    next n = omega arith

pub file_of-length : (table : List ℕ) (k : ℕ) → length (file_of table k) ≡ 5 + 20 * jobs table
unfolding file_of
file_of-length table k =
    omega (
      arith,
      length-append (head_bytes k) (jobs_bytes (jobs table) table),
      head_bytes-length k,
      jobs_bytes-length (jobs table) table (div-mul-le_self (length table) row_words),
    )
