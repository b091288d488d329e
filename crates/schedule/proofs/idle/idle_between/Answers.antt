-- `schedule::idle::idle_between` meets its contract: the free slots from a on are what the idle slots before b are more than those before a.
-- Assumes nothing.
use Prim.Native.Nat.{◌+◌}
use mathlib.Core.Path.{◌≡◌, sym}
use native.Mathlib.Omega.{arith}
use Rattle.frame.specs.Schedule.{free_slots}
use Rattle.frame.proofs.FreeSlots.{free_slots_between, free_slots_none}
use Rattle.schedule.proofs.idle.idle_between.Goals as goal

pub returns-then-b-a : goal.returns-then-b-a
returns-then-b-a c = let a = c.args in sym (free_slots_none a.table.now a.a a.b c.if-b-a.true)

-- the slots before a and those between are the slots before b
together : (c : goal.After-idle_before-2)
    → c.idle_before-2.result + free_slots c.args.table.now c.args.a c.args.b
    ≡ c.idle_before.result
together c =
    let a = c.args in
    rw (c.idle_before-2.ensures, c.idle_before.ensures) (free_slots_between a.table.now a.a a.b (omega (arith, c.if-b-a.false)))

pub overflow_sub-result : goal.overflow_sub-result
overflow_sub-result c = omega (arith, together c)

pub returns : goal.returns
returns c = omega (arith, together c)
