-- The delay rows of the paper's formula (6), over any jobs in the order of their finishes. The private functions compute by them; no promise of
-- an ask rests on them.
use Rattle.std.specs.Prelude.{ℕ, zero, suc, ◌+◌, ◌-◌, max}

-- The next finish's row from the last: zero with w = 0; otherwise the larger of the last row's delay for w, less the free slots between the two
-- finishes and not below zero, and this row's delay for w − 1 plus V.
unfoldable pub next_row : ℕ → ℕ → (ℕ → ℕ) → ℕ → ℕ
next_row free recovery last zero = 0
next_row free recovery last (suc w) = max (last (suc w) - free) (next_row free recovery last w + recovery)

-- The row just after the first p finishes, with the free slots before each finish and its job's recovery.
unfoldable pub rows : (ℕ → ℕ) → (ℕ → ℕ) → ℕ → ℕ → ℕ
rows free recovery zero w = 0
rows free recovery (suc p) w = next_row (free p) (recovery p) (rows free recovery p) w
