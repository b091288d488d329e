-- Laws of sums, maxima and searches over the numbers below n.
--
-- In order: a case split on a test; `total`; `count`; numbers that all differ; `greatest`; `some`; `least`; `listed`. Each is an induction on n. Assumes nothing.
use Prim.Native.Nat.{ℕ, zero, suc, ◌+◌, ◌-◌, ◌≤◌, ◌<◌, zero-le}
use native.Mathlib.Nat.{le-max_left, le-max_right, le_trans, eq-or-lt_of_le, le_of_suc-le-suc, lt_irrefl, le_antisymm}
use native.Mathlib.Numerals.{add-one}
use native.Mathlib.Omega.{arith}
use mathlib.Core.Path.{◌≡◌, refl, sym, ap, ◌∙◌}
use mathlib.Core.Logic.{⊎_elim}
use mathlib.Core.Bool.{Bool, true, false, cond, ◌&&◌, or-true, true≢false, false≢true}
use mathlib.Core.List.{[], ◌∷◌}
use lib.ListN.{length, get_or, length-append, get_or-append}
use lib.Seq.{get_or_at}
use lib.Dec.{ltb, eqb}
use mir.Val.{bool_byte}
use borrow.Author.Tests.{ltb-true, ltb-false, eqb-true, eqb-false, eq-eqb, ne_eqb}
use Rattle.jobs.specs.Below.{total, count, greatest, some, least, listed}

-- ---- tests

pub by_cases {ℓ} : {P : Type ℓ} (b : Bool) → (b ≡ true → P) → (b ≡ false → P) → P
by_cases true f g = f refl
by_cases false f g = g refl

pub and_left : (a b : Bool) → (a && b) ≡ true → a ≡ true
and_left true b e = refl
and_left false b e = e

pub and_right : (a b : Bool) → (a && b) ≡ true → b ≡ true
and_right true b e = e
and_right false b e = absurd (false≢true e)

pub and_both : (a b : Bool) → a ≡ true → b ≡ true → (a && b) ≡ true
and_both a b p q = rw (p, q)

-- an index below suc n is below n or is n
pub below_suc {ℓ} : {P : Type ℓ} {i n : ℕ} → i < suc n → (i < n → P) → (i ≡ n → P) → P
below_suc h f g = ⊎_elim (λ e. g e) (λ l. f l) (eq-or-lt_of_le (le_of_suc-le-suc h))

indicator_le : (a b : Bool) → (a ≡ true → b ≡ true) → cond {A = ℕ} a 1 0 ≤ cond b 1 0
indicator_le true b h = rw (h refl) (omega arith)
indicator_le false b h = omega arith

-- ---- total

pub total_same : (n : ℕ) (g h : ℕ → ℕ) → ((i : ℕ) → i < n → g i ≡ h i) → total n g ≡ total n h
unfolding total
total_same zero g h e = refl
total_same (suc n) g h e = omega (arith, total_same n g h (λ i l. e i (omega arith)), e n (omega arith))

pub total-le : (n : ℕ) (g h : ℕ → ℕ) → ((i : ℕ) → i < n → g i ≤ h i) → total n g ≤ total n h
unfolding total
total-le zero g h e = omega arith
total-le (suc n) g h e = omega (arith, total-le n g h (λ i l. e i (omega arith)), e n (omega arith))

pub total_zero : (n : ℕ) (g : ℕ → ℕ) → ((i : ℕ) → i < n → g i ≡ 0) → total n g ≡ 0
unfolding total
total_zero zero g e = refl
total_zero (suc n) g e = omega (arith, total_zero n g (λ i l. e i (omega arith)), e n (omega arith))

pub part_le-total : (n : ℕ) (g : ℕ → ℕ) (i : ℕ) → i < n → g i ≤ total n g
unfolding total
part_le-total zero g i l = omega arith
part_le-total (suc n) g i l =
    below_suc l (λ k. omega (arith, part_le-total n g i k)) (λ e. omega (arith, ap g e))

pub total_positive : (n : ℕ) (g : ℕ → ℕ) → 0 < total n g → (i : ℕ) × (i < n) × (0 < g i)
unfolding total
total_positive zero g h = absurd (omega arith)
total_positive (suc n) g h = go (g n) refl (total_positive n g)
  where
    go : (x : ℕ) → g n ≡ x → (0 < total n g → (i : ℕ) × (i < n) × (0 < g i)) → (i : ℕ) × (i < suc n) × (0 < g i)
    go zero e more = let m = more (omega arith) in (m.0, omega (arith, m.1), m.2)
    go (suc x) e more = (n, omega arith, omega arith)

pub total-add : (n : ℕ) (g h : ℕ → ℕ) → total n (λ i. g i + h i) ≡ total n g + total n h
unfolding total
total-add zero g h = refl
total-add (suc n) g h = omega (arith, total-add n g h)

pub total_swap : (n m : ℕ) (g : ℕ → ℕ → ℕ) → total n (λ i. total m (λ j. g i j)) ≡ total m (λ j. total n (λ i. g i j))
unfolding total
total_swap zero m g = sym (total_zero m (λ j. 0) (λ i l. refl))
total_swap (suc n) m g =
    omega (arith, total_swap n m g, total-add m (λ j. total n (λ i. g i j)) (λ j. g n j))

pub total_more : (g : ℕ → ℕ) (n m : ℕ) → n ≤ m → total n g ≤ total m g
unfolding total
total_more g n zero l = omega (arith, ap (λ k. total k g) (le_antisymm l zero-le))
total_more g n (suc m) l =
    ⊎_elim (λ e. rw e (omega arith)) (λ k. omega (arith, total_more g n m (le_of_suc-le-suc k))) (eq-or-lt_of_le l)

-- of all parts only the one at a
pub total_one : (n a : ℕ) (g : ℕ → ℕ) → a < n → total n (λ j. cond (eqb a j) (g j) 0) ≡ g a
unfolding total
total_one zero a g l = absurd (omega arith)
total_one (suc n) a g l =
    below_suc l
    (λ k. rw (ne_eqb a n (λ e. omega arith)) (omega (arith, total_one n a g k)))
    (λ e.
    rw (eq-eqb a n e)
    (omega (arith, total_zero n (λ j. cond (eqb a j) (g j) 0) (λ j k. rw (ne_eqb a j (λ q. omega arith))), ap g e)))

-- a sum may be taken in another order
pub total_rearranged : (n : ℕ) (at number : ℕ → ℕ) (g : ℕ → ℕ)
    → ((q : ℕ) → q < n → at q < n) → ((j : ℕ) → j < n → number j < n) → ((q : ℕ) → q < n → number (at q) ≡ q) → ((j : ℕ) → j < n → at (number j) ≡ j)
    → total n (λ q. g (at q)) ≡ total n g
total_rearranged n at number g a b c d =
    total_same n (λ q. g (at q)) (λ q. total n (λ j. cond (eqb (at q) j) (g j) 0)) (λ q l. sym (total_one n (at q) g (a q l)))
    ∙ total_swap n n (λ q j. cond (eqb (at q) j) (g j) 0)
    ∙ total_same n (λ j. total n (λ q. cond (eqb (at q) j) (g j) 0)) g
    (λ j l.
    total_same n (λ q. cond (eqb (at q) j) (g j) 0) (λ q. cond (eqb (number j) q) (g j) 0) (λ q k. ap (λ e. cond e (g j) 0) (turn q j k l))
    ∙ total_one n (number j) (λ _. g j) (b j l))
  where
    turn : (q j : ℕ) → q < n → j < n → eqb (at q) j ≡ eqb (number j) q
    turn q j k l =
        by_cases (eqb (at q) j)
        (λ e. e ∙ sym (eq-eqb (number j) q (ap number (sym (eqb-true _ _ e)) ∙ c q k)))
        (λ e. e ∙ sym (ne_eqb (number j) q (λ f. eqb-false _ _ e (ap at (sym f) ∙ d j l))))

-- one part falls by one and the others stay, so the sum falls by one
pub total_falls : (n : ℕ) (g h : ℕ → ℕ) (i : ℕ) → i < n → h i + 1 ≡ g i → ((j : ℕ) → j < n → (j ≡ i → ⊥) → h j ≡ g j) → total n h + 1 ≡ total n g
unfolding total
total_falls zero g h i l e s = absurd (omega arith)
total_falls (suc n) g h i l e s =
    below_suc l
    (λ k. omega (arith, total_falls n g h i k e (λ j m d. s j (omega arith) d), s n (omega arith) (λ q. omega arith)))
    (λ q. omega (arith, total_same n h g (λ j m. s j (omega arith) (λ w. omega arith)), ap g q, ap h q, e))

-- one part is less and none is more, so the sum is less
pub total_less : (n : ℕ) (g h : ℕ → ℕ) (i : ℕ) → i < n → g i < h i → ((j : ℕ) → j < n → g j ≤ h j) → total n g < total n h
unfolding total
total_less zero g h i l e s = absurd (omega arith)
total_less (suc n) g h i l e s =
    below_suc l
    (λ k. omega (arith, total_less n g h i k e (λ j m. s j (omega arith)), s n (omega arith)))
    (λ q. omega (arith, total-le n g h (λ j m. s j (omega arith)), ap g q, ap h q, e))

total_ones : (n : ℕ) → total n (λ i. 1) ≡ n
unfolding total
total_ones zero = refl
total_ones (suc n) = omega (arith, total_ones n)

-- ---- count

pub count_none : (p : ℕ → Bool) → count 0 p ≡ 0
unfolding count total
count_none p = refl

pub count_more : (n : ℕ) (p : ℕ → Bool) → count (n + 1) p ≡ count n p + bool_byte (p n)
unfolding count total
count_more n p = by_cases (p n) (λ e. rw (add-one, e)) (λ e. rw (add-one, e))

pub count-le : (n : ℕ) (p q : ℕ → Bool) → ((i : ℕ) → i < n → p i ≡ true → q i ≡ true) → count n p ≤ count n q
unfolding count
count-le n p q h = total-le n _ _ (λ i l. indicator_le (p i) (q i) (h i l))

-- what has p has q, and one that has not p has q, so more have q
pub count_less : (n : ℕ) (p q : ℕ → Bool) (i : ℕ) → i < n → p i ≡ false → q i ≡ true → ((j : ℕ) → j < n → p j ≡ true → q j ≡ true) → count n p < count n q
unfolding count
count_less n p q i l e f h = total_less n _ _ i l (rw (e, f) (omega arith)) (λ j m. indicator_le (p j) (q j) (h j m))

pub count-all : (n : ℕ) → count n (λ i. true) ≡ n
unfolding count
count-all n = total_ones n

pub count_at_most : (n : ℕ) (p : ℕ → Bool) → count n p ≤ n
count_at_most n p = omega (arith, count-le n p (λ i. true) (λ i l e. refl), count-all n)

-- a sum that counts, as a loop adds to it
pub counted_more : (p : ℕ → Bool) (sum n : ℕ) (next : Bool) → sum ≡ count n p → next ≡ p n → sum + bool_byte next ≡ count (n + 1) p
counted_more p sum n next e f = rw (e, f) (sym (count_more n p))

pub counted_at_most : (p : ℕ → Bool) (sum n : ℕ) (next : Bool) → sum ≡ count n p → sum + bool_byte next ≤ n + 1
counted_at_most p sum n true e = omega (arith, count_at_most n p)
counted_at_most p sum n false e = omega (arith, count_at_most n p)

pub count_same : (n : ℕ) (p q : ℕ → Bool) → ((i : ℕ) → i < n → p i ≡ q i) → count n p ≡ count n q
unfolding count
count_same n p q h = total_same n _ _ (λ i l. ap (λ b. cond b 1 0) (h i l))

-- what holds of the numbers below n, and a value for n
abbrev pub with_next : (ℕ → Bool) → ℕ → Bool → ℕ → Bool
with_next holds n next i = cond (eqb i n) next (holds i)

pub with_next_below : (holds : ℕ → Bool) (n : ℕ) (next : Bool) (i : ℕ) → i < n → with_next holds n next i ≡ holds i
with_next_below holds n next i l = rw (ne_eqb i n (λ e. omega arith))

pub with_next_at : (holds : ℕ → Bool) (n : ℕ) (next : Bool) → with_next holds n next n ≡ next
with_next_at holds n next = rw (eq-eqb n n refl)

pub counted_next : (holds : ℕ → Bool) (sum n : ℕ) (next : Bool) → sum ≡ count n holds → sum + bool_byte next ≡ count (n + 1) (with_next holds n next)
counted_next holds sum n next e =
    counted_more (with_next holds n next) sum n next (e ∙ count_same n holds (with_next holds n next) (λ i l. sym (with_next_below holds n next i l))) (sym (with_next_at holds n next))

-- at most one has p
pub count_unique : (n : ℕ) (p : ℕ → Bool) → ((i j : ℕ) → i < n → j < n → p i ≡ true → p j ≡ true → i ≡ j) → count n p ≤ 1
unfolding count total
count_unique zero p h = omega arith
count_unique (suc n) p h =
    by_cases (p n)
    (λ e. rw (e, total_zero n (λ i. cond (p i) 1 0) (λ i l. not_another i l e)) (omega arith))
    (λ e. rw e (omega (arith, count_unique n p (λ i j l m. h i j (omega arith) (omega arith)))))
  where
    not_another : (i : ℕ) → i < n → p n ≡ true → ◌≡◌ {A = ℕ} (cond (p i) 1 0) 0
    not_another i l e = by_cases (p i) (λ f. absurd (lt_irrefl n (rw (h i n (omega arith) (omega arith) f e) at l))) (λ f. rw f)

pub count_positive : (n : ℕ) (p : ℕ → Bool) → 0 < count n p → (i : ℕ) × (i < n) × (p i ≡ true)
unfolding count
count_positive n p h =
    let m = total_positive n _ h in
    by_cases (p m.0) (λ e. (m.0, m.1, e)) (λ e. absurd (lt_irrefl 0 (rw e at m.2)))

pub count_at : (n : ℕ) (p : ℕ → Bool) (i : ℕ) → i < n → p i ≡ true → 0 < count n p
count_at n p i l e =
    omega (arith, count_less n (λ j. false) p i l refl e (λ j m f. absurd (false≢true f)))

-- ---- all different

-- each number below n equals one of the numbers below n
count_equal : (n i : ℕ) → i < n → count n (λ j. eqb i j) ≡ 1
count_equal n i l =
    omega
    (arith, count_unique n (λ j. eqb i j) (λ j k m o e f. omega (arith, eqb-true)), count_at n (λ j. eqb i j) i l (eq-eqb i i refl))

module _ (n : ℕ) (f : ℕ → ℕ) (small : (i : ℕ) → i < n → f i < n) (apart : (i j : ℕ) → i < n → j < n → f i ≡ f j → i ≡ j) where
  reaches : ℕ → ℕ
  reaches v = count n (λ i. eqb (f i) v)

  reached_once : (v : ℕ) → reaches v ≤ 1
  unfolding reaches
  reached_once v = count_unique n (λ i. eqb (f i) v) (λ i j l m e d. apart i j l m (omega (arith, eqb-true)))

  reached_in_all : total n reaches ≡ n
  unfolding reaches count
  reached_in_all =
      total_swap n n (λ v i. cond (eqb (f i) v) 1 0)
      ∙ total_same n _ (λ i. 1) (λ i l. count_equal n (f i) (small i l))
      ∙ total_ones n

  -- n numbers below n that all differ are all the numbers below n
  pub onto : (v : ℕ) → v < n → (i : ℕ) × (i < n) × (f i ≡ v)
  unfolding reaches
  onto v l =
      by_cases (ltb 0 (reaches v))
      (λ t. let m = count_positive n (λ i. eqb (f i) v) (ltb-true _ _ t) in (m.0, m.1, eqb-true _ _ m.2))
      (λ t.
      let none : reaches v < 1 = omega (arith, ltb-false) in
      absurd (omega (arith, total_less n reaches (λ w. 1) v l none (λ w k. reached_once w), reached_in_all, total_ones n)))

-- ---- greatest

pub greatest_bounds : (n : ℕ) (g : ℕ → ℕ) (i : ℕ) → i < n → g i ≤ greatest n g
unfolding greatest
greatest_bounds zero g i l = omega arith
greatest_bounds (suc n) g i l =
    below_suc l
    (λ k. le_trans (greatest_bounds n g i k) (le-max_left (greatest n g) (g n)))
    (λ e. rw e (le-max_right (greatest n g) (g n)))

pub greatest-le : (n : ℕ) (g : ℕ → ℕ) (b : ℕ) → ((i : ℕ) → i < n → g i ≤ b) → greatest n g ≤ b
unfolding greatest
greatest-le zero g b h = omega arith
greatest-le (suc n) g b h = omega (arith, greatest-le n g b (λ i l. h i (omega arith)), h n (omega arith))

pub greatest_same : (n : ℕ) (g h : ℕ → ℕ) → ((i : ℕ) → i < n → g i ≡ h i) → greatest n g ≡ greatest n h
unfolding greatest
greatest_same zero g h e = refl
greatest_same (suc n) g h e = omega (arith, greatest_same n g h (λ i l. e i (omega arith)), e n (omega arith))

pub greatest_reached : (n : ℕ) (g : ℕ → ℕ) → (i : ℕ) × (i < suc n) × (greatest (suc n) g ≡ g i)
unfolding greatest
greatest_reached zero g = (0, omega arith, omega arith)
greatest_reached (suc n) g = go (greatest (suc n) g - g (suc n)) refl (greatest_reached n g)
  where
    go : (d : ℕ) → greatest (suc n) g - g (suc n) ≡ d → (i : ℕ) × (i < suc n) × (greatest (suc n) g ≡ g i)
        → (i : ℕ) × (i < suc (suc n)) × (greatest (suc (suc n)) g ≡ g i)
    go zero e r = (suc n, omega arith, omega arith)
    go (suc d) e r = (r.0, omega (arith, r.1), omega (arith, r.2))

-- ---- some

pub some_at : (n : ℕ) (p : ℕ → Bool) (i : ℕ) → i < n → p i ≡ true → some n p ≡ true
unfolding some
some_at zero p i l e = absurd (omega arith)
some_at (suc n) p i l e =
    below_suc l (λ k. rw (some_at n p i k e)) (λ q. rw (← q, e) (or-true (some i p)))

pub some_where : (n : ℕ) (p : ℕ → Bool) → some n p ≡ true → (i : ℕ) × (i < n) × (p i ≡ true)
unfolding some
some_where zero p e = absurd (false≢true e)
some_where (suc n) p e = by_cases (some n p) (λ s. let m = some_where n p s in (m.0, omega (arith, m.1), m.2)) (λ s. (n, omega arith, rw s at e))

pub none_at : (n : ℕ) (p : ℕ → Bool) → some n p ≡ false → (i : ℕ) → i < n → p i ≡ false
none_at n p e i l = by_cases (p i) (λ q. absurd (true≢false (sym (some_at n p i l q) ∙ e))) (λ q. q)

pub none_all : (n : ℕ) (p : ℕ → Bool) → ((i : ℕ) → i < n → p i ≡ false) → some n p ≡ false
none_all n p h =
    by_cases (some n p)
    (λ e. let m = some_where n p e in absurd (true≢false (sym m.2 ∙ h m.0 m.1)))
    (λ e. e)

-- ---- least

pub least-le : (n : ℕ) (p : ℕ → Bool) → least n p ≤ n
unfolding least
least-le zero p = omega arith
least-le (suc n) p = by_cases (p (least n p)) (λ e. rw e (omega (arith, least-le n p))) (λ e. rw e (omega arith))

pub least_holds : (n : ℕ) (p : ℕ → Bool) → least n p < n → p (least n p) ≡ true
unfolding least
least_holds zero p l = absurd (omega arith)
least_holds (suc n) p l = by_cases (p (least n p)) (λ e. rw e e) (λ e. absurd (lt_irrefl (suc n) (rw e at l)))

-- where the search comes to n, nothing below n has p, and otherwise what it comes to has p
pub least-cases {ℓ} : {P : Type ℓ} (n : ℕ) (p : ℕ → Bool) → (least n p < n → p (least n p) ≡ true → P) → (least n p ≡ n → P) → P
least-cases n p f g = ⊎_elim (λ e. g e) (λ l. f l (least_holds n p l)) (eq-or-lt_of_le (least-le n p))

pub before_least : (n : ℕ) (p : ℕ → Bool) (i : ℕ) → i < least n p → p i ≡ false
unfolding least
before_least zero p i l = absurd (omega arith)
before_least (suc n) p i l =
    by_cases (p (least n p))
    (λ e. before_least n p i (rw e at l))
    (λ e. none_before n p i e (rw e at l) (before_least n p i))
  where
    none_before : (n : ℕ) (p : ℕ → Bool) (i : ℕ) → p (least n p) ≡ false → i < suc n → (i < least n p → p i ≡ false) → p i ≡ false
    none_before n p i e k more =
        least-cases n p
        (λ l h. absurd (true≢false (sym h ∙ e)))
        (λ q. below_suc k (λ m. more (omega arith)) (λ w. ap p (w ∙ sym q) ∙ e))

-- the search comes to the first that has p
pub least_is : (n : ℕ) (p : ℕ → Bool) (i : ℕ) → i < n → p i ≡ true → ((j : ℕ) → j < i → p j ≡ false) → least n p ≡ i
least_is n p i l e h =
    by_cases (ltb (least n p) i)
    (λ t. let k : least n p < i = ltb-true _ _ t in absurd (true≢false (sym (least_holds n p (omega arith)) ∙ h (least n p) k)))
    (λ t. by_cases (ltb i (least n p))
    (λ u. absurd (true≢false (sym e ∙ before_least n p i (ltb-true _ _ u))))
    (λ u. omega (arith, ltb-false)))

pub least_none : (n : ℕ) (p : ℕ → Bool) → ((i : ℕ) → i < n → p i ≡ false) → least n p ≡ n
least_none n p h = least-cases n p (λ l e. absurd (true≢false (sym e ∙ h (least n p) l))) (λ q. q)

pub least_same : (n : ℕ) (p q : ℕ → Bool) → ((i : ℕ) → i < n → p i ≡ q i) → least n p ≡ least n q
least_same n p q h =
    least-cases n q
    (λ l e. least_is n p (least n q) l (h (least n q) l ∙ e) (λ j m. h j (omega arith) ∙ before_least n q j m))
    (λ e. least_none n p (λ i l. h i l ∙ before_least n q i (omega arith)) ∙ sym e)

-- ---- listed

pub length-listed : {A : Type 0} (n : ℕ) (g : ℕ → A) → length (listed n g) ≡ n
unfolding listed
length-listed zero g = refl
length-listed (suc n) g = omega (arith, length-append (listed n g) (g n ∷ []), length-listed n g)

pub get_or-listed : {A : Type 0} (n : ℕ) (g : ℕ → A) (d : A) (i : ℕ) → i < n → get_or (listed n g) i d ≡ g i
unfolding listed
get_or-listed zero g d i l = absurd (omega arith)
get_or-listed (suc n) g d i l =
    below_suc l
    (λ k. get_or-append (listed n g) (g n ∷ []) d i (omega (arith, length-listed n g)) ∙ get_or-listed n g d i k)
    (λ e. rw e (get_or_at (listed n g) (g n) [] d n (length-listed n g)))
