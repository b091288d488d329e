use Rattle.jobs.specs.Arrays.{Holds, values}
use Rattle.latest.proofs.Steps.{spread}
use Rattle.judge.proofs.row.spread.Given as goal

abbrev pub invariant-loop-w : goal.invariant-loop-w
invariant-loop-w l = Holds 9 l.next l.w (spread l.recovery (values l.first))
