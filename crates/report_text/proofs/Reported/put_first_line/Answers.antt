-- `report_text::Reported::put_first_line` meets its contract: its pieces one after the other. Assumes nothing.
use Rattle.text.proofs.Growing.{puts_then}
use Rattle.report_text.proofs.Reported.put_first_line.Goals as goal

pub returns : goal.returns
returns c = rw (c.from.ensures, c.jobs.ensures) at (puts_then (puts_then (puts_then c.put_labelled.ensures c.put_labelled-2.ensures) c.put_verdict.ensures) c.put.ensures)
