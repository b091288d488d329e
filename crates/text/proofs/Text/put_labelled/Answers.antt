-- `text::Text::put_labelled` meets its contract: the label, then the number. Assumes nothing.
use Rattle.text.proofs.Growing.{puts_then}
use Rattle.text.proofs.Text.put_labelled.Goals as goal

pub returns : goal.returns
returns c = puts_then c.put.ensures c.put_decimal.ensures
