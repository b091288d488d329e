-- A report put at the end of a text, as the private functions promise it to each other; no promise of the report rests on it.
use Rattle.std.specs.Prelude.{ℕ, List}
use Rattle.text.specs.Growing.{Puts}
use Rattle.text.specs.declared.Text.{Text}

-- Some text that is allowed is put.
pub record Writes (allowed : List ℕ → Type 0) (text text' : Text) : Type 0 where
  pub piece : List ℕ
  pub is : allowed piece
  pub put : Puts piece text text'
