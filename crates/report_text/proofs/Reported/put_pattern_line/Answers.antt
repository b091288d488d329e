-- `report_text::Reported::put_pattern_line` meets its contract: nothing on sound, and on a miss its pieces one after the other. Assumes nothing.
use Rattle.text.proofs.Growing.{puts_none, puts_then}
use Rattle.report_text.proofs.Reported.put_pattern_line.Goals as goal

pub returns-in-Miss : goal.returns-in-Miss
returns-in-Miss c = rw c.in-Miss.is (puts_then (puts_then c.put.ensures c.put_counts.ensures) c.put-in-Miss.ensures)

pub returns-in_default : goal.returns-in_default
returns-in_default c = rw c.in_default.is puts_none
