use Rattle.jobs.specs.Arrays.{values}
use Rattle.text.specs.Growing.{Puts}
use Rattle.report_text.specs.Report.{job_lines}
use Rattle.report_text.proofs.Reported.put_job_lines.Given as goal

abbrev pub invariant-loop-i : goal.invariant-loop-i
invariant-loop-i l = let a = l.fn.self in Puts (job_lines a.table.now (values a.early.now) (values a.late.now) l.i) l.initial.text l.text
