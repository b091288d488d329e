-- `text::Text::put_signed` meets its contract: a minus sign below zero, and how far the number is from it. Assumes nothing.
use Rattle.text.proofs.Digits.{signed_negative, signed_natural}
use Rattle.text.proofs.Growing.{puts_same, puts_then}
use Rattle.text.proofs.Text.put_signed.Goals as goal
use Rattle.text.proofs.Text.put_signed.Goals.{then-n-lt0, else-n-lt0}

pub returns : goal.returns
returns c =
    let far = c.unsigned_abs in
    elim c.if-n-lt0.branch [
      | then-n-lt0 w ↦ puts_same (signed_negative c.args.n c.ranges.n far.result far.ensures.value w.if-n-lt0.true) (puts_then w.put.ensures (rw w.self-is at c.put_decimal.ensures))
      | else-n-lt0 w ↦ puts_same (signed_natural c.args.n c.ranges.n far.result far.ensures.value w.if-n-lt0.false) (rw w.self-is at c.put_decimal.ensures)
    ]
