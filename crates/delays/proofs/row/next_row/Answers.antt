-- `delays::row::next_row` meets its contract: after w turns the first w cells hold the row, each made from the one before it; the cell for no
-- faults is zero from the start. Assumes nothing.
use Prim.Native.Nat.{◌-◌}
use native.Mathlib.Omega.{arith}
use Rattle.jobs.specs.Arrays.{values}
use Rattle.jobs.proofs.Arrays.{holds_more}
use Rattle.delays.specs.Rows.{next_row}
use Rattle.delays.proofs.Rows.{next_start, next_at}
use Rattle.delays.proofs.row.next_row.Goals as goal

pub loop-w-init : goal.loop-w-init
loop-w-init c = let a = c.args in next_start a.free a.recovery (values a.last)

pub overflow_add-next : goal.overflow_add-next
overflow_add-next c =
    let a = c.args in
    let w = c.loop-w.w in
    omega (
      arith,
      c.loop-w.invariant.each (w - 1) (omega arith),
      next_at a.free a.recovery (values a.last) w (omega arith),
      c.requires.fits w (omega arith),
    )

pub loop-w-preserved : goal.loop-w-preserved
loop-w-preserved c =
    let a = c.args in
    let w = c.loop-w.w in
    holds_more 9 c.loop-w.next w (next_row a.free a.recovery (values a.last)) c.max.result (omega arith) c.loop-w.invariant
    (omega (
      arith,
      c.loop-w.invariant.each (w - 1) (omega arith),
      next_at a.free a.recovery (values a.last) w (omega arith),
    ))
