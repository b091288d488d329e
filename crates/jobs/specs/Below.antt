-- Sums, maxima and searches over the numbers below n, by which the other definitions count.
use Rattle.std.specs.Prelude.{ℕ, zero, suc, ◌+◌, max, Bool, false, cond, ◌||◌, List, [], ◌∷◌, ◌++◌}

-- The sum of g i over all i below n.
unfoldable pub total : ℕ → (ℕ → ℕ) → ℕ
total zero g = 0
total (suc n) g = total n g + g n

-- How many i below n have p.
unfoldable pub count : ℕ → (ℕ → Bool) → ℕ
count n p = total n (λ i. cond (p i) 1 0)

-- The greatest g i over all i below n, 0 if there is none.
unfoldable pub greatest : ℕ → (ℕ → ℕ) → ℕ
greatest zero g = 0
greatest (suc n) g = max (greatest n g) (g n)

-- Whether some i below n has p.
unfoldable pub some : ℕ → (ℕ → Bool) → Bool
some zero p = false
some (suc n) p = some n p || p n

-- The least i below n that has p, n if there is none.
unfoldable pub least : ℕ → (ℕ → Bool) → ℕ
least zero p = 0
least (suc n) p = let i = least n p in cond (p i) i (suc n)

-- The list of g i for all i below n, in order.
unfoldable pub listed : {A : Type 0} → ℕ → (ℕ → A) → List A
listed zero g = []
listed (suc n) g = listed n g ++ g n ∷ []
