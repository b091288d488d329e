-- A text that grows in a lent buffer.
use Rattle.std.specs.Prelude.{ℕ, ◌≡◌, List}
use Rattle.std.specs.Borrow.{MutBor}
use Rattle.text.specs.Text.{Adds}
use Rattle.text.specs.declared.Text.{Text}

-- A text has no bytes yet, in a buffer that is as it was lent.
pub record Begins (buffer : MutBor (List ℕ)) (text : Text) : Type 0 where
  pub same_buffer : text.buffer.ghost_name ≡ buffer.ghost_name
  pub untouched : text.buffer.now ≡ buffer.now
  pub empty : text.at ≡ 0

-- A piece is added at the end of a text, in the same buffer.
pub record Puts (piece : List ℕ) (text text' : Text) : Type 0 where
  pub same_buffer : text'.buffer.ghost_name ≡ text.buffer.ghost_name
  pub added : Adds piece text.buffer.now text.at text'.buffer.now text'.at
