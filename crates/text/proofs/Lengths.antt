-- How long a text can be: pieces one after the other, a number of so many digits, a refusal. Assumes nothing.
use Prim.Native.Nat.{ℕ, zero, suc, ◌+◌, ◌*◌, ◌/◌, ◌%◌, ◌^◌, ◌≤◌, ◌<◌}
use native.Mathlib.Nat.{suc-mul, mul-le-mul_right}
use native.Mathlib.Omega.{arith}
use Prim.Native.String.{String}
use mathlib.Core.Path.{◌≡◌, refl}
use mathlib.Core.Bool.{Bool}
use mathlib.Core.List.{List, [], ◌∷◌, ◌++◌}
use lib.ListN.{length, length-append}
use lib.Chars.{codes}
use lib.Dec.{ltb, lit<}
use borrow.Author.Tests.{ltb-true, ltb-false}
use Rattle.io.specs.Digits.{hex_digit_ascii, last_digits}
use Rattle.jobs.specs.Below.{least}
use Rattle.jobs.specs.Refusals.{number}
use Rattle.jobs.specs.declared.refusal.Refusal.{Refusal}
use Rattle.jobs.proofs.Below.{by_cases, before_least}
use Rattle.text.specs.Text.{places, decimal, labelled, each, refusal}

-- a text of at most so many bytes
pub record Short (text : List ℕ) (bytes : ℕ) : Type 0 where
  pub few : length text ≤ bytes

pub word : (text : String) → Short (codes text) (length (codes text))
word text = record { few = omega arith }

pub then : {x y : List ℕ} {a b : ℕ} → Short x a → Short y b → Short (x ++ y) (a + b)
then {x} {y} l h = record { few = omega (arith, length-append x y, l.few, h.few) }

pub each_short : (n : ℕ) (piece : ℕ → List ℕ) (b most : ℕ) → ((i : ℕ) → i < n → Short (piece i) b) → n ≤ most → Short (each n piece) (most * b)
unfolding each
each_short n piece b most h l = record { few = omega (arith, so_far n (λ i m. h i m), mul-le-mul_right b l) }
  where
    so_far : (m : ℕ) → ((i : ℕ) → i < m → Short (piece i) b) → length (each m piece) ≤ m * b
    so_far zero h = omega arith
    so_far (suc m) h = omega (arith, length-append (each m piece) (piece m), so_far m (λ i l. h i (omega arith)), (h m (omega arith)).few, suc-mul m b)

digits_length : (base count n : ℕ) → length (last_digits base count n) ≡ count
digits_length base zero n = refl
digits_length base (suc count) n = omega (arith, length-append (last_digits base count (n / base)) (hex_digit_ascii (n % base) ∷ []), digits_length base count (n / base))

pub number_short : (n d : ℕ) → d < 20 → n < 10 ^ suc d → Short (decimal n) (suc d)
unfolding decimal places
number_short n d l h =
    let p : ℕ → Bool = λ i. ltb n (10 ^ suc i) in
    by_cases (ltb d (least 20 p))
    (λ e.
    let no = before_least 20 p d (ltb-true d (least 20 p) e) in
    let below : 10 ^ suc d ≤ n = ltb-false n (10 ^ suc d) no in
    absurd (omega arith))
    (λ e. let few : least 20 p ≤ d = ltb-false d (least 20 p) e in record { few = omega (arith, digits_length 10 (suc (least 20 p)) n) })

pub label_short : (text : String) (n d : ℕ) → d < 20 → n < 10 ^ suc d → Short (labelled text n) (length (codes text) + suc d)
label_short text n d l h = then (word text) (number_short n d l h)

-- a number of two digits and a place of five
pub refusal_short : (r : Refusal) → number r.reason < 100 → r.place < 100000 → Short (refusal r) 20
refusal_short r l h =
    let a = label_short "refused " (number r.reason) 1 (lit< tt) l in
    let b = label_short " at " r.place 4 (lit< tt) h in
    then (then a b) (word "\n")
