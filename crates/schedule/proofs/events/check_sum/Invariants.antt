use Prim.Native.Nat.{◌+◌, ◌≤◌}
use mathlib.Core.Path.{◌≡◌}
use lib.ListN.{drop}
use Rattle.frame.specs.Latest.{sum}
use Rattle.schedule.proofs.events.check_sum.Given as goal

abbrev pub invariant-loop-count : goal.invariant-loop-count
invariant-loop-count l = (l.left ≤ 8) × (l.left + sum l.pattern ≡ 8 + sum (drop l.count-index l.pattern))
