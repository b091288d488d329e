-- What a program answers on the file in its input, where the bytes of the input are known.
use Rattle.std.specs.Prelude.{ℕ, ◌≡◌, ◌≤◌, ◌⊎◌, List, Option, IfSome, length, take, codes}
use Rattle.std.specs.Borrow.{Bor, MutBor}
use Rattle.std.specs.Fn.{Shared}
use Rattle.std.specs.Io.KnownBytes.{Consumes}

-- The most bytes of an input that are read.
abbrev pub most_read : ℕ
most_read = 65536

-- A file has at most `most` bytes. It is what the input has, or its first `most` bytes, and the input loses these.
pub record Reads (most : ℕ) (input input' : Option (List ℕ)) (file : List ℕ) : Type 0 where
  pub fits : length file ≤ most
  pub whole : IfSome input (λ xs. file ≡ take most xs)
  pub lost : Consumes input input' file

-- The functions that take a file and a lent buffer and answer a number.
abbrev pub Answering : Type 0 → Type 1
Answering F = Shared F (Bor (List ℕ) × (MutBor (List ℕ) × Unit {0})) (ℕ × (MutBor (List ℕ) × Unit {0}))

-- A text is what a function answers on a file: as many bytes as it says of what it leaves in the lent buffer.
pub record Answers {F : Type 0} (g : Answering F) (f : F) (file buffer buffer' text : List ℕ) : Type 0 where
  pub shown : Bor (List ℕ)
  pub shows : shown.now ≡ file
  pub lent : MutBor (List ℕ)
  pub lends : lent.now ≡ buffer
  pub count : ℕ
  pub left : MutBor (List ℕ)
  pub met : g.post f (shown, (lent, tt)) (count, (left, tt))
  pub leaves : left.now ≡ buffer'
  pub reads : text ≡ take count buffer'

-- The line in place of an answer on an input that could not be read to its end.
abbrev pub unreadable : List ℕ
unreadable = codes "unreadable\n"

-- A text is the answer on the file in an input, or the line in its place, and then the buffer is as it was.
abbrev pub Says : {F : Type 0} → Answering F → F → Option (List ℕ) → Option (List ℕ) → List ℕ → List ℕ → List ℕ → Type 0
Says g f input input' buffer buffer' text =
    ((file : List ℕ) × Reads most_read input input' file × Answers g f file buffer buffer' text)
    ⊎ ((bytes : List ℕ) × Consumes input input' bytes × (text ≡ unreadable) × (buffer' ≡ buffer))
