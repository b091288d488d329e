-- `judge::row::spread` meets its contract: after w turns the first w cells hold the row, each made from the one before it.
-- Assumes nothing.
use Rattle.std.proofs.Common.{rules}
use native.Mathlib.Omega.{arith}
use Prim.Native.Nat.{◌-◌, max}
use mathlib.Core.Path.{◌≡◌, ◌∙◌, sym, ap}
use Rattle.jobs.specs.Arrays.{values}
use Rattle.jobs.proofs.Arrays.{holds_more, less_one}
use Rattle.latest.proofs.Steps.{again, spread}
use Rattle.latest.proofs.Rows.{spread_none, spread_at, spread-again}
use Rattle.judge.proofs.row.spread.Goals as goal

pub loop-w-init : goal.loop-w-init
loop-w-init c =
    record {
      long = search rules;
      each = λ i l. let least : i ≡ 0 = omega arith in rw least (spread_none c.args.recovery (values c.args.first));
    }

pub once_more-requires : goal.once_more-requires
once_more-requires c =
    let a = c.args in
    let w = c.loop-w.w in
    rw (c.loop-w.invariant.each (w - 1) (less_one c.loop-w.auto.w))
    (spread-again a.recovery (values a.first) w c.loop-w.auto.w (c.requires.fits w c.loop-w-test.true))

pub loop-w-preserved : goal.loop-w-preserved
loop-w-preserved c =
    let a = c.args in
    let w = c.loop-w.w in
    let first = values a.first in
    holds_more 9 c.loop-w.next w (spread a.recovery first) c.max.result c.loop-w-test.true c.loop-w.invariant
    (c.max.ensures
    ∙ ap (max (first w)) (c.once_more.ensures ∙ ap (again a.recovery) (c.loop-w.invariant.each (w - 1) (less_one c.loop-w.auto.w)))
    ∙ sym (spread_at a.recovery first w c.loop-w.auto.w))
