use Rattle.schedule.proofs.NextReady.{Sought}
use Rattle.schedule.proofs.events.next_ready.Given as goal

abbrev pub invariant-loop-ready : goal.invariant-loop-ready
invariant-loop-ready l = Sought l.times l.time l.ready-index l.next
