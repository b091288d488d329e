use Rattle.delays.proofs.Walk.{Walked}
use Rattle.delays.proofs.fill_delays.Given as goal

abbrev pub invariant-loop-p : goal.invariant-loop-p
invariant-loop-p l = Walked l.table l.faults.k l.initial.delays l.p l.row l.last l.delays
