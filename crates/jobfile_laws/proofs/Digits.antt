-- A number and its bytes are each got back from the other, and so are words. A digit is what is left by 256, and the digits above it are the quotient.
-- Each law is an induction on the width or on the list. Assumes nothing.
use Prim.Native.Nat.{ℕ, zero, suc, ◌+◌, ◌*◌, ◌/◌, ◌%◌, ◌^◌, ◌≤◌, ◌<◌}
use native.Mathlib.Nat.{mod-add-div, add-mul-mod_self_left, add-mul-div_left, mod-eq_of_lt, div-eq_of_lt, div-lt_iff_lt-mul, zero-add, pow-suc}
use native.Mathlib.Omega.{arith}
use mathlib.Core.Path.{◌≡◌, refl, sym, ap, ◌∙◌}
use mathlib.Core.List.{List, [], ◌∷◌, ◌++◌, append_assoc}
use lib.ListN.{length, get_or, take, drop, length-drop}
use lib.Seq.{length-take-le, get_or-drop, take_at, drop_at, take-add}
use lib.Dec.{lit<}
use Rattle.jobfile.specs.Bytes.{number, words}
use Rattle.jobfile_write.specs.Writing.{bytes_of, word_bytes}
use Rattle.jobfile_write.proofs.Lengths.{bytes_of-length}

-- every element is a byte
abbrev pub IsBytes : List ℕ → Type 0
IsBytes bytes = (i : ℕ) → get_or bytes i 0 < 256

pub bytes_drop : (n : ℕ) (bytes : List ℕ) → IsBytes bytes → IsBytes (drop n bytes)
bytes_drop n bytes h i = rw get_or-drop (h (n + i))

-- what every element of a list is below, every element of its start is below
pub take_below : (bound n : ℕ) (l : List ℕ) → 0 < bound → ((i : ℕ) → get_or l i 0 < bound) → (i : ℕ) → get_or (take n l) i 0 < bound
take_below bound zero l p h i = p
take_below bound (suc n) [] p h i = p
take_below bound (suc n) (x ∷ l) p h zero = h 0
take_below bound (suc n) (x ∷ l) p h (suc i) = take_below bound n l p (λ j. h (suc j)) i

-- a number is got back from its bytes
pub number-bytes_of : (width x : ℕ) → x < 256 ^ width → number (bytes_of width x) ≡ x
unfolding number bytes_of
number-bytes_of zero x h = omega arith
number-bytes_of (suc width) x h =
    let above : x / 256 < 256 ^ width = (div-lt_iff_lt-mul {k = 256} (lit< tt)).1 (rw pow-suc at h) in
    ap (λ (d : ℕ). x % 256 + 256 * d) (number-bytes_of width (x / 256) above) ∙ mod-add-div x 256

-- bytes are got back from their number
pub bytes_of-number : (bytes : List ℕ) → IsBytes bytes → bytes_of (length bytes) (number bytes) ≡ bytes
unfolding number bytes_of
bytes_of-number [] h = refl
bytes_of-number (b ∷ bytes) h =
    let digit : (b + 256 * number bytes) % 256 ≡ b = add-mul-mod_self_left b 256 (number bytes) ∙ mod-eq_of_lt (h 0) in
    let above : (b + 256 * number bytes) / 256 ≡ number bytes = add-mul-div_left b (number bytes) (lit< tt) ∙ ap (λ (d : ℕ). d + number bytes) (div-eq_of_lt (h 0)) ∙ zero-add (number bytes) in
    rw (digit, above) (ap (λ (l : List ℕ). b ∷ l) (bytes_of-number bytes (λ i. h (suc i))))

-- the bytes at a place are those of the number that they are
pub bytes_back : (width x : ℕ) (bytes : List ℕ) → IsBytes bytes → width ≤ length bytes → number (take width bytes) ≡ x → bytes_of width x ≡ take width bytes
bytes_back width x bytes h l e =
    ap (bytes_of width) (sym e)
    ∙ ap (λ (w : ℕ). bytes_of w (number (take width bytes))) (sym (length-take-le width bytes l))
    ∙ bytes_of-number (take width bytes) (take_below 256 width bytes (lit< tt) h)

-- words are got back from their bytes
pub words-word_bytes : (ws rest : List ℕ) → ((i : ℕ) → get_or ws i 0 < 256 ^ 4) → words (length ws) (word_bytes ws ++ rest) ≡ ws
unfolding words word_bytes
words-word_bytes [] rest h = refl
words-word_bytes (w ∷ ws) rest h = rw append_assoc (next w ws rest (h 0) (words-word_bytes ws rest (λ i. h (suc i))))
  where
    next : (w : ℕ) (ws rest : List ℕ) → w < 256 ^ 4 → words (length ws) (word_bytes ws ++ rest) ≡ ws
        → number (take 4 (bytes_of 4 w ++ (word_bytes ws ++ rest))) ∷ words (length ws) (drop 4 (bytes_of 4 w ++ (word_bytes ws ++ rest))) ≡ w ∷ ws
    next w ws rest l e =
        rw (take_at (bytes_of 4 w) (word_bytes ws ++ rest) 4 (bytes_of-length 4 w), drop_at (bytes_of 4 w) (word_bytes ws ++ rest) 4 (bytes_of-length 4 w), number-bytes_of 4 w l, e)

-- and bytes from their words
pub word_bytes-words : (n : ℕ) (bytes : List ℕ) → IsBytes bytes → 4 * n ≤ length bytes → word_bytes (words n bytes) ≡ take (4 * n) bytes
unfolding words word_bytes
word_bytes-words zero bytes h l = refl
word_bytes-words (suc n) bytes h l =
    let first : bytes_of 4 (number (take 4 bytes)) ≡ take 4 bytes = bytes_back 4 (number (take 4 bytes)) bytes h (omega arith) refl in
    let rest : word_bytes (words n (drop 4 bytes)) ≡ take (4 * n) (drop 4 bytes) = word_bytes-words n (drop 4 bytes) (bytes_drop 4 bytes h) (omega (arith, length-drop 4 bytes)) in
    let all : 4 + 4 * n ≡ 4 * suc n = omega arith in
    rw (first, rest) (sym (take-add 4 (4 * n) bytes) ∙ ap (λ (m : ℕ). take m bytes) all)
