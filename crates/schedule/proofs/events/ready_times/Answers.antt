-- `schedule::events::ready_times` meets its contract: the closure reads a job's ready time. Assumes nothing.
use native.Mathlib.Omega.{arith}
use Rattle.std.proofs.Common.{rules}
use Rattle.schedule.proofs.events.ready_times.Goals as goal

pub returns : goal.returns
returns c = record { long = c.by_number.ensures.long; each = λ i l. let gave = c.by_number.ensures.each i (omega (arith, c.jobs.ensures.count)) in search rules }
