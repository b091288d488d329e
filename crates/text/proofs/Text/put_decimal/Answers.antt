-- `text::Text::put_decimal` meets its contract: the digits that the kit's `io` gives are the fewest that hold the number. Assumes nothing.
use native.Mathlib.Omega.{arith}
use mathlib.Core.Path.{◌∙◌}
use Rattle.text.proofs.Growing.{puts_same}
use Rattle.text.proofs.Digits.{digits_are_decimal}
use Rattle.text.proofs.Text.put_decimal.Goals as goal

pub returns : goal.returns
returns c =
    let made = c.decimal-count in
    puts_same (made.ensures.digits ∙ digits_are_decimal c.args.n made.result (omega arith) made.ensures.len) c.put.ensures
