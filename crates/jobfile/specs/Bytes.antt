-- Numbers from bytes, little-endian, and a list laid over the start of a buffer.
use Rattle.std.specs.Prelude.{ℕ, zero, suc, ◌+◌, ◌*◌, List, [], ◌∷◌, ◌++◌, length, take, drop}

-- The number that these bytes are.
unfoldable pub number : List ℕ → ℕ
number [] = 0
number (b ∷ bytes) = b + 256 * number bytes

-- The number of so many bytes at an offset.
abbrev pub number_at : ℕ → ℕ → List ℕ → ℕ
number_at width at bytes = number (take width (drop at bytes))

-- The first 32-bit numbers of these bytes, so many of them.
unfoldable pub words : ℕ → List ℕ → List ℕ
words zero bytes = []
words (suc count) bytes = number (take 4 bytes) ∷ words count (drop 4 bytes)

-- A list laid over the start of a buffer: the buffer's others stay.
abbrev pub over : List ℕ → List ℕ → List ℕ
over xs buffer = xs ++ drop (length xs) buffer
