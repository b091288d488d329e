-- Laws of results that fill the first n words of a lent buffer and leave the others.
--
-- In order: what each word is; a word more, for a loop that goes through the words in order; a buffer that was written in any order, which is
-- full as soon as each of its words is right. Assumes nothing.
use Prim.Native.Nat.{ℕ, suc, ◌+◌, ◌-◌, ◌≤◌, ◌<◌}
use native.Mathlib.Numerals.{add-one}
use native.Mathlib.Omega.{arith}
use mathlib.Core.Path.{◌≡◌, refl, sym, ap, ◌∙◌}
use mathlib.Core.List.{List, ◌++◌}
use lib.ListN.{length, get_or, set, drop, length-append, length-drop, get_or-append}
use lib.Seq.{drop-cons, append_snoc, set_at, get_or-append-add, get_or-drop, ext_get_or}
use lib.Dec.{ltb}
use borrow.Author.Tests.{ltb-true, ltb-false}
use Rattle.jobs.specs.Below.{listed}
use Rattle.jobs.proofs.Below.{by_cases, length-listed, get_or-listed}
use Rattle.schedule.specs.Asks.{fill}

module _ (result : ℕ → ℕ) (buffer : List ℕ) where
  -- ---- what each word is

  pub length-fill : (n : ℕ) → n ≤ length buffer → length (fill n result buffer) ≡ length buffer
  unfolding fill
  length-fill n h = simp (length-append, length-listed, length-drop) (omega arith)

  pub fill_at : (n i : ℕ) → i < n → get_or (fill n result buffer) i 0 ≡ result i
  unfolding fill
  fill_at n i l =
      get_or-append (listed n result) (drop n buffer) 0 i (omega (arith, length-listed n result)) ∙ get_or-listed n result 0 i l

  pub fill_rest : (n i : ℕ) → n ≤ i → get_or (fill n result buffer) i 0 ≡ get_or buffer i 0
  unfolding fill
  fill_rest n i h =
      ap (λ k. get_or (listed n result ++ drop n buffer) k 0) split
      ∙ get_or-append-add (listed n result) (drop n buffer) (i - n) 0
      ∙ get_or-drop n buffer (i - n) 0
      ∙ ap (λ k. get_or buffer k 0) back
    where
      split : i ≡ length (listed n result) + (i - n)
      split = omega (arith, length-listed n result)

      back : n + (i - n) ≡ i
      back = omega arith

  -- ---- a word more

  pub fill_none : buffer ≡ fill 0 result buffer
  unfolding fill listed
  fill_none = refl

  pub fill_more : (n : ℕ) → n < length buffer → set (fill n result buffer) n (result n) ≡ fill (n + 1) result buffer
  unfolding fill listed
  fill_more n h =
      rw (add-one, drop-cons buffer n 0 h)
      (set_at (listed n result) (get_or buffer n 0) (drop (suc n) buffer) (result n) n (length-listed n result)
      ∙ sym (append_snoc (listed n result) (result n) (drop (suc n) buffer)))

  -- ---- written in any order

  -- a buffer of the same length with the result at each word below n and the others as they were
  pub record Written (n : ℕ) (after : List ℕ) : Type 0 where
    pub long : length after ≡ length buffer
    pub results : (i : ℕ) → i < n → get_or after i 0 ≡ result i
    pub others : (i : ℕ) → n ≤ i → get_or after i 0 ≡ get_or buffer i 0

  pub written-fill : (n : ℕ) (after : List ℕ) → n ≤ length buffer → Written n after → after ≡ fill n result buffer
  written-fill n after h w =
      ext_get_or 0 after (fill n result buffer) (w.long ∙ sym (length-fill n h))
      (λ i l.
      by_cases (ltb i n)
      (λ e. w.results i (ltb-true i n e) ∙ sym (fill_at n i (ltb-true i n e)))
      (λ e. w.others i (ltb-false i n e) ∙ sym (fill_rest n i (ltb-false i n e))))
