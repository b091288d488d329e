use Rattle.latest.proofs.Walk.{job_at_turn}
use Rattle.judge.proofs.Unwinding.{Unwinding}
use Rattle.judge.proofs.turns.Turns.unwound.Given as goal

abbrev pub invariant-loop-p : goal.invariant-loop-p
invariant-loop-p l = Unwinding l.self-inside.words.now l.fn.faults.k (job_at_turn l.self-inside.words.now l.own) l.p l.w l.counts
