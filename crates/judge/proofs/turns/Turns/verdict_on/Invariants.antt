use Rattle.judge.proofs.Judging.{MetTo}
use Rattle.judge.proofs.turns.Turns.verdict_on.Given as goal

abbrev pub invariant-loop-job : goal.invariant-loop-job
invariant-loop-job l = MetTo l.self-inside.words.now l.fn.faults.k l.job-index
