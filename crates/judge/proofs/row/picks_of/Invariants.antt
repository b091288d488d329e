use Rattle.jobs.specs.Arrays.{Holds, values}
use Rattle.latest.proofs.Steps.{picks}
use Rattle.judge.proofs.row.picks_of.Given as goal

abbrev pub invariant-loop-w : goal.invariant-loop-w
invariant-loop-w l = Holds 9 l.of l.w (picks l.recovery (values l.first))
