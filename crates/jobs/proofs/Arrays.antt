-- Filling an array from the front: a loop starts with nothing held, each turn holds one value more. And what such a loop asks of its index.
-- Assumes nothing.
use Prim.Native.Nat.{ℕ, ◌+◌, ◌-◌, ◌*◌, ◌≤◌, ◌<◌, ◌^◌}
use native.Mathlib.Nat.{lt_of_lt_of_le}
use native.Mathlib.Numerals.{add-one}
use native.Mathlib.Omega.{arith}
use mathlib.Core.Path.{◌≡◌, ◌∙◌, ap, sym}
use mathlib.Core.List.{List}
use lib.ListN.{length, get_or, set, replicate, length-set, length-replicate, get_or-replicate}
use lib.Seq.{get_or-set_same, get_or-set_other}
use mir.Syntax.{w64}
use mir.Val.{Fits}
use borrow.Author.Rules.{scaled_Fits}
use Rattle.jobs.specs.Arrays.{Holds}
use Rattle.jobs.proofs.Below.{below_suc}

pub holds_none : (size : ℕ) (array : List ℕ) (g : ℕ → ℕ) → length array ≡ size → Holds size array 0 g
holds_none size array g e = record { long = e; each = λ i l. absurd (omega arith) }

pub holds_more : (size : ℕ) (array : List ℕ) (n : ℕ) (g : ℕ → ℕ) (x : ℕ) → n < size → Holds size array n g → x ≡ g n → Holds size (set array n x) (n + 1) g
holds_more size array n g x l h e =
    record {
      long = length-set array n x ∙ h.long;
      each =
          λ i m.
          below_suc (rw add-one at m)
          (λ k. get_or-set_other array n i x 0 (λ q. omega arith) ∙ h.each i k)
          (λ k. ap (λ j. get_or (set array n x) j 0) k ∙ get_or-set_same array n x 0 (omega (arith, h.long)) ∙ e ∙ ap g (sym k));
    }

pub holds_same : (size : ℕ) (array : List ℕ) (n : ℕ) (f g : ℕ → ℕ) → Holds size array n f → ((i : ℕ) → i < n → f i ≡ g i) → Holds size array n g
holds_same size array n f g h e = record { long = h.long; each = λ i l. h.each i l ∙ e i l }

pub holds_zeros : (size : ℕ) → Holds size (replicate size 0) size (λ i. 0)
holds_zeros size = record { long = length-replicate size 0; each = λ i l. get_or-replicate size i 0 0 l }

-- ---- the index of a loop over an array of at most 64

-- the offset of an element of `size` bytes, and the next index, fit a machine word
pub offset_fits : {i n : ℕ} (size : ℕ) → i < n → n ≤ 64 → 64 * size < 2 ^ 63 → Fits w64 (i * size)
offset_fits size l few small = scaled_Fits _ 64 size (lt_of_lt_of_le l few) small

pub next_fits : {i n : ℕ} → i < n → n ≤ 64 → Fits w64 (i + 1)
next_fits l few = omega arith

pub fewer_left : {i n : ℕ} → i < n → n - (i + 1) < n - i
fewer_left l = omega arith

pub one_below : {i n : ℕ} → i < n → i - 1 < n
one_below l = omega arith

pub less_one : {i : ℕ} → 0 < i → i - 1 < i
less_one l = omega arith
