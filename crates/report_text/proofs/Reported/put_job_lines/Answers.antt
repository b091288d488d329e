-- `report_text::Reported::put_job_lines` meets its contract: after i turns the lines of the first i jobs are put. Assumes nothing.
use Rattle.text.proofs.Growing.{each_none, each_more}
use Rattle.report_text.proofs.Reported.put_job_lines.Goals as goal

pub loop-i-init : goal.loop-i-init
loop-i-init c = each_none _

pub loop-i-preserved : goal.loop-i-preserved
loop-i-preserved c = each_more _ c.loop-i.i c.loop-i.invariant c.put_job_line.ensures
