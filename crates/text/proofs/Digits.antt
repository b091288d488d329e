-- Numbers in decimal, and signed.
--
-- The digits that the kit's `io` writes are a number in decimal: the fewest digits that hold a number are one more than the least d for which it is
-- below 10 ^ (d + 1), since powers of ten grow. Assumes nothing.
use Prim.Native.Nat.{ℕ, zero, suc, ◌-◌, ◌^◌, ◌≤◌, ◌<◌}
use native.Mathlib.Nat.{pow-le-pow_right}
use native.Mathlib.Omega.{arith}
use native.Mathlib.Numerals.{unary_clauses}
use mathlib.Core.Path.{◌≡◌, sym, ap}
use lib.Dec.{ltb, lit<}
use lib.IntN.{ℤ, pos, negsuc, nat_abs, sub_ℕ}
use lib.Signed.{lt_z}
use mir.Syntax.{w64}
use mir.Val.{SFits, to_z, of_z}
use mir.Facts.{to_z-of_z}
use mathlib.Core.Bool.{true, false, true≢false}
use borrow.Author.Tests.{ltb-true, ltb-false, lt-ltb, le-ltb}
use Rattle.io.specs.Digits.{last_digits, IsDigitCount}
use Rattle.jobs.proofs.Below.{by_cases, least_is}
use Rattle.text.specs.Text.{places, decimal, labelled, signed}

module _ (n c : ℕ) (small : n < 2 ^ 64) (below : n < 10 ^ suc c) (above : 0 < c → 10 ^ c ≤ n) where
  -- 20 digits hold every number of 64 bits
  few : c < 20
  few =
      by_cases (ltb c 20)
      (λ e. ltb-true c 20 e)
      (λ e. let long : 20 ≤ c = ltb-false c 20 e in let big : 10 ^ 20 ≤ 10 ^ c = pow-le-pow_right (lit< tt) long in absurd (omega (arith, above (omega arith))))

  fewest_places : suc c ≡ places n
  unfolding places
  fewest_places =
      ap suc
      (sym (least_is 20 (λ d. ltb n (10 ^ suc d)) c few (lt-ltb n (10 ^ suc c) below)
      (λ d l. le-ltb n (10 ^ suc d) (let grows : 10 ^ suc d ≤ 10 ^ c = pow-le-pow_right (lit< tt) l in omega (arith, above (omega arith))))))

pub digits_are_decimal : (n count : ℕ) → n < 2 ^ 64 → IsDigitCount 10 1 n count → last_digits 10 count n ≡ decimal n
unfolding decimal
digits_are_decimal n zero small fewest = absurd (omega (arith, fewest.0))
digits_are_decimal n (suc c) small fewest = ap (λ d. last_digits 10 d n) (fewest_places n c small fewest.1 (λ l. simp unary_clauses at (fewest.2 (omega arith))))

-- ---- signed numbers

negative : (z : ℤ) (n : ℕ) → lt_z z (pos 0) ≡ true → n ≡ nat_abs z → labelled "-" n ≡ signed z
negative (pos m) n t e = absurd (omega (arith, ltb-true m 0 t))
negative (negsuc m) n t e = ap (λ d. labelled "-" d) e

natural : (z : ℤ) (n : ℕ) → lt_z z (pos 0) ≡ false → n ≡ nat_abs z → decimal n ≡ signed z
natural (pos m) n t e = ap decimal e
natural (negsuc m) n t e = absurd (true≢false t)

-- a number of 64 bits, by the test and the distance from zero that the code has of it
module _ (z : ℤ) (fits : SFits w64 z) (far : ℕ) (is : far ≡ nat_abs (to_z w64 (of_z w64 z))) where
  pub signed_negative : lt_z (to_z w64 (of_z w64 z)) (pos 0) ≡ true → labelled "-" far ≡ signed z
  signed_negative t = let same = to_z-of_z fits in negative z far (rw same at t) (rw same at is)

  pub signed_natural : lt_z (to_z w64 (of_z w64 z)) (pos 0) ≡ false → decimal far ≡ signed z
  signed_natural t = let same = to_z-of_z fits in natural z far (rw same at t) (rw same at is)

pub signed_above : (number less : ℕ) → less ≤ number → signed (sub_ℕ number less) ≡ decimal (number - less)
signed_above number less l = rw (le-ltb number less l)

pub signed_below : (number less : ℕ) → number < less → signed (sub_ℕ number less) ≡ labelled "-" (less - number)
signed_below number less l =
    let missing : suc (less - suc number) ≡ less - number = omega arith in
    rw (lt-ltb number less l) (ap (λ d. labelled "-" d) missing)
