use Prim.Native.Nat.{ℕ, ◌<◌}
use mathlib.Core.Path.{◌≡◌}
use lib.ListN.{length, get_or}
use Rattle.jobs.specs.Orders.{the_job}
use Rattle.schedule.proofs.events.by_number.Given as goal

abbrev pub invariant-loop-j : goal.invariant-loop-j
invariant-loop-j g l = (length l.numbers ≡ 64) × ((k : ℕ) → k < l.j → g.F.Fn.post l.of_job (the_job k, tt) (get_or l.numbers k 0))
