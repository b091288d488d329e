-- What an array holds. No promise of an ask rests on it.
use Rattle.std.specs.Prelude.{ℕ, ◌^◌, ◌<◌, ◌≡◌, List, length, get_or}

-- An array of `size` words, the first n of which hold these values.
pub record Holds (size : ℕ) (array : List ℕ) (n : ℕ) (values : ℕ → ℕ) : Type 0 where
  pub long : length array ≡ size
  pub each : (i : ℕ) → i < n → get_or array i 0 ≡ values i

-- The values that an array holds.
abbrev pub values : List ℕ → ℕ → ℕ
values array i = get_or array i 0

-- The nine values of a row fit 32 bits.
pub record Fit (row : ℕ → ℕ) : Type 0 where
  pub fits : (w : ℕ) → w < 9 → row w < 2 ^ 32
