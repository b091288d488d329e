use mathlib.Core.Path.{◌≡◌}
use lib.ListN.{drop}
use Rattle.std.specs.Prelude.{find}
use Rattle.schedule.specs.Events.{waiting}
use Rattle.schedule.proofs.events.pick.Given as goal

abbrev pub invariant-loop-job : goal.invariant-loop-job
invariant-loop-job l = find (waiting l.times l.left l.time) l.sorted ≡ find (waiting l.times l.left l.time) (drop l.job-index l.sorted)
