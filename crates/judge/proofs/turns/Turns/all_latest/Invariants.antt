use Rattle.judge.proofs.Judging.{LateTo}
use Rattle.judge.proofs.turns.Turns.all_latest.Given as goal

abbrev pub invariant-loop-q : goal.invariant-loop-q
invariant-loop-q l = LateTo l.self-inside.words.now l.faults.k l.q l.late
