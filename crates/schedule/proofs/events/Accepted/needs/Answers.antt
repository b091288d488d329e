-- `schedule::events::Accepted::needs` meets its contract: the closure gives the need of a job. Assumes nothing.
use native.Mathlib.Omega.{arith}
use Rattle.std.proofs.Common.{rules}
use Rattle.schedule.proofs.events.Accepted.needs.Goals as goal

pub returns : goal.returns
returns c = record { long = c.by_number.ensures.long; each = λ i l. let gave = c.by_number.ensures.each i (omega (arith, c.jobs.ensures.count)) in search rules }
