-- Laws of numbers from bytes: how the code puts a number together, and which bytes are the field at an index of a row. Each is a computation on
-- the first few bytes. Assumes nothing.
use Prim.Native.Nat.{ℕ, ◌+◌, ◌*◌, ◌≤◌, ◌<◌}
use native.Mathlib.Nat.{add-zero}
use native.Mathlib.Omega.{arith}
use mathlib.Core.Path.{◌≡◌, refl, sym, ap, ◌∙◌}
use mathlib.Core.List.{List, [], ◌∷◌, ◌++◌}
use lib.ListN.{length, get_or, take, drop, length-drop}
use lib.Seq.{get_or-drop, drop-drop}
use Rattle.std.proofs.lemmas.List.{take-append-le, drop-append-le}
use Rattle.jobs.specs.Table.{row_words}
use Rattle.jobfile.specs.Bytes.{number, number_at, words}
use Rattle.jobfile.specs.Meaning.{length_of, faults_of, row_of}

-- ---- from bytes to a number

first_one : (l : List ℕ) → 1 ≤ length l → number (take 1 l) ≡ get_or l 0 0
unfolding number
first_one [] h = absurd (omega arith)
first_one (a ∷ l) h = omega arith

first_two : (l : List ℕ) → 2 ≤ length l → number (take 2 l) ≡ get_or l 0 0 + 256 * get_or l 1 0
unfolding number
first_two [] h = absurd (omega arith)
first_two (a ∷ []) h = absurd (omega arith)
first_two (a ∷ b ∷ l) h = omega arith

first_four : (l : List ℕ) → 4 ≤ length l → number (take 4 l) ≡ get_or l 0 0 + 256 * get_or l 1 0 + 65536 * get_or l 2 0 + 16777216 * get_or l 3 0
unfolding number
first_four [] h = absurd (omega arith)
first_four (a ∷ []) h = absurd (omega arith)
first_four (a ∷ b ∷ []) h = absurd (omega arith)
first_four (a ∷ b ∷ c ∷ []) h = absurd (omega arith)
first_four (a ∷ b ∷ c ∷ d ∷ l) h = omega arith

module _ (bytes : List ℕ) (at : ℕ) where
  pub one_byte : at < length bytes → number_at 1 at bytes ≡ get_or bytes at 0
  one_byte h =
      first_one (drop at bytes) (omega (arith, length-drop at bytes))
      ∙ get_or-drop at bytes 0 0
      ∙ ap (λ (i : ℕ). get_or bytes i 0) (add-zero at)

  pub two_bytes : at + 2 ≤ length bytes → number_at 2 at bytes ≡ get_or bytes at 0 + 256 * get_or bytes (at + 1) 0
  two_bytes h =
      omega (arith, first_two (drop at bytes) (omega (arith, length-drop at bytes)), get_or-drop at bytes 0 0, get_or-drop at bytes 1 0, ap (λ (i : ℕ). get_or bytes i 0) (add-zero at))

  pub four_bytes : at + 4 ≤ length bytes → number_at 4 at bytes ≡ get_or bytes at 0 + 256 * get_or bytes (at + 1) 0 + 65536 * get_or bytes (at + 2) 0 + 16777216 * get_or bytes (at + 3) 0
  four_bytes h =
      omega (
        arith,
        first_four (drop at bytes) (omega (arith, length-drop at bytes)),
        get_or-drop at bytes 0 0,
        get_or-drop at bytes 1 0,
        get_or-drop at bytes 2 0,
        get_or-drop at bytes 3 0,
        ap (λ (i : ℕ). get_or bytes i 0) (add-zero at),
      )

-- the k of a head
pub faults_is : (left : List ℕ) → length_of left ≡ 3 → 2 + length_of left ≤ length left → faults_of left ≡ get_or left 4 0
faults_is left e h = one_byte left 4 (omega arith)

-- the words of a job's record
pub row_is : (left : List ℕ) → row_of left ≡ number_at 4 4 left ∷ number_at 4 8 left ∷ number_at 4 12 left ∷ number_at 4 16 left ∷ []
unfolding words
row_is left = simp drop-drop

-- the row of a record stands in the record's own bytes
module _ (own others : List ℕ) (whole : length own ≡ 20) where
  number_here : (at : ℕ) → at + 4 ≤ 20 → number_at 4 at (own ++ others) ≡ number_at 4 at own
  number_here at h =
      ap (λ (l : List ℕ). number (take 4 l)) (drop-append-le at own others (omega arith))
      ∙ ap number (take-append-le 4 (drop at own) others (omega (arith, length-drop at own)))

  pub row_here : row_of (own ++ others) ≡ row_of own
  row_here =
      row_is (own ++ others)
      ∙ rw (number_here 4 (omega arith), number_here 8 (omega arith), number_here 12 (omega arith), number_here 16 (omega arith)) (sym (row_is own))

pub row-length : (left : List ℕ) → length (row_of left) ≡ row_words
unfolding words
row-length left = refl
