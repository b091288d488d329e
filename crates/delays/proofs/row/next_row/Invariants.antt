use Rattle.jobs.specs.Arrays.{values, Holds}
use Rattle.delays.specs.Rows.{next_row}
use Rattle.delays.proofs.row.next_row.Given as goal

abbrev pub invariant-loop-w : goal.invariant-loop-w
invariant-loop-w l = Holds 9 l.next l.w (next_row l.free l.recovery (values l.last))
