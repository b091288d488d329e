-- Texts in ASCII, piece by piece; the lines that a program gives in place of its answer; and a text in a lent buffer.
use Rattle.std.specs.Prelude.{ℕ, zero, suc, ◌+◌, ◌-◌, ◌^◌, min, ◌≡◌, List, [], ◌∷◌, ◌++◌, length, take, drop, ltb, ℤ, pos, negsuc, codes}
use Prim.Native.String.{String}
use Rattle.io.specs.Digits.{last_digits}
use Rattle.jobs.specs.Below.{least}
use Rattle.jobs.specs.Refusals.{number}
use Rattle.jobs.specs.declared.refusal.Refusal.{Refusal}

-- How many decimal digits a number has, if they are at most 21.
unfoldable pub places : ℕ → ℕ
places n = suc (least 20 (λ d. ltb n (10 ^ suc d)))

-- A number in decimal.
unfoldable pub decimal : ℕ → List ℕ
decimal n = last_digits 10 (places n) n

-- A number after a text.
abbrev pub labelled : String → ℕ → List ℕ
labelled label n = codes label ++ decimal n

-- A signed number in decimal.
abbrev pub signed : ℤ → List ℕ
signed (pos n) = decimal n
signed (negsuc n) = labelled "-" (suc n)

-- The first n pieces, one after the other.
unfoldable pub each : ℕ → (ℕ → List ℕ) → List ℕ
each zero piece = []
each (suc n) piece = each n piece ++ piece n

-- A refusal in one line: its reason's number and its place.
abbrev pub refusal : Refusal → List ℕ
refusal r = labelled "refused " (number r.reason) ++ labelled " at " r.place ++ codes "\n"

-- The most bytes that an input may have.
abbrev pub most_bytes : ℕ
most_bytes = 32768

-- The line on an input of more bytes.
abbrev pub too_long : List ℕ
too_long = codes "too long\n"

-- A text laid over the start of a buffer, as far as the buffer goes.
unfoldable pub laid : List ℕ → List ℕ → List ℕ
laid [] buffer = buffer
laid (b ∷ text) [] = []
laid (b ∷ text) (old ∷ buffer) = b ∷ laid text buffer

-- A piece is added to a buffer from byte `at` on, as far as the buffer goes, and the next byte goes after it.
pub record Adds (piece buffer : List ℕ) (at : ℕ) (buffer' : List ℕ) (at' : ℕ) : Type 0 where
  pub lies : buffer' ≡ take at buffer ++ laid piece (drop at buffer)
  pub next : at' ≡ at + min (length piece) (length buffer - at)
