-- `schedule::events::fault_free` meets its contract: the zeros that are lent are the pattern without faults. Assumes nothing.
use Rattle.schedule.proofs.FaultFree.{zeros_accepted, zeros_finishes}
use Rattle.schedule.proofs.events.fault_free.Goals as goal

pub invariant_of-walk : goal.invariant_of-walk
invariant_of-walk c = record { counts = zeros_accepted _ c.jobs.ensures.count c.jobs.ensures.few }

pub returns-in-Ok : goal.returns-in-Ok
returns-in-Ok c = rw c.in-Ok.ensures.0 at (zeros_finishes _ c.jobs.ensures.count c.jobs.ensures.few (rw (← c.in-Ok.ensures.0) at c.in-Ok.ensures.1) c.walk.ensures)
