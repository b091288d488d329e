-- `report_text::Reported::put_lines` meets its contract: its pieces one after the other. Assumes nothing.
use Rattle.text.proofs.Growing.{puts_then}
use Rattle.report_text.proofs.Reported.put_lines.Goals as goal

pub returns : goal.returns
returns c = puts_then (puts_then c.put_first_line.ensures c.put_job_lines.ensures) c.put_pattern_line.ensures
