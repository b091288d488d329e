use Rattle.schedule.proofs.Served.{Served}
use Rattle.schedule.proofs.idle.idle_before.Given as goal

abbrev pub invariant-loop-job : goal.invariant-loop-job
invariant-loop-job l = Served l.table l.t l.job-index l.until l.runs
