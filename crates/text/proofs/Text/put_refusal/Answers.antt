-- `text::Text::put_refusal` meets its contract: its pieces one after the other. Assumes nothing.
use Rattle.text.proofs.Growing.{puts_then}
use Rattle.text.proofs.Text.put_refusal.Goals as goal

pub returns : goal.returns
returns c = rw c.from.ensures at (puts_then (puts_then (puts_then c.put.ensures c.put_number.ensures) c.put_labelled.ensures) c.put-2.ensures)
