-- `judge::row::picks_of` meets its contract: after w turns the first w cells hold the picks, each made from the one before it.
-- Assumes nothing.
use Prim.Native.Nat.{ℕ, suc, ◌-◌}
use mathlib.Core.Path.{refl, ◌∙◌, sym, ap}
use mathlib.Core.Bool.{cond}
use lib.Dec.{leb}
use lib.ListN.{replicate}
use Rattle.jobs.specs.Arrays.{values}
use Rattle.jobs.proofs.Arrays.{holds_more, one_below, less_one}
use Rattle.latest.proofs.Steps.{again, spread, picks}
use Rattle.latest.proofs.Rows.{picks_first, picks_at, spread-again, picks_small}
use Rattle.judge.proofs.row.picks_of.Goals as goal

pub loop-w-init : goal.loop-w-init
loop-w-init c = picks_first c.args.recovery (values c.args.first) (replicate 9 0) refl refl

pub once_more-requires : goal.once_more-requires
once_more-requires c =
    let a = c.args in
    let w = c.loop-w.w in
    rw (c.requires.holds.each (w - 1) (one_below c.loop-w-test.true))
    (spread-again a.recovery (values a.first) w c.loop-w.auto.w (c.requires.fit.fits w c.loop-w-test.true))

pub pick-requires : goal.pick-requires
pick-requires c =
    let a = c.args in
    let w = c.loop-w.w in
    rw (c.loop-w.invariant.each (w - 1) (less_one c.loop-w.auto.w)) (picks_small a.recovery (values a.first) (w - 1) (one_below c.loop-w-test.true))

pub loop-w-preserved : goal.loop-w-preserved
loop-w-preserved c =
    let a = c.args in
    let w = c.loop-w.w in
    let first = values a.first in
    holds_more 9 c.loop-w.of w (picks a.recovery first) c.pick.result c.loop-w-test.true c.loop-w.invariant
    (c.pick.ensures
    ∙ ap (λ (x : ℕ). cond (leb x (first w)) 0 (suc (values c.loop-w.of (w - 1)))) (c.once_more.ensures ∙ ap (again a.recovery) (c.requires.holds.each (w - 1) (one_below c.loop-w-test.true)))
    ∙ ap (λ (x : ℕ). cond (leb (again a.recovery (spread a.recovery first (w - 1))) (first w)) 0 (suc x)) (c.loop-w.invariant.each (w - 1) (less_one c.loop-w.auto.w))
    ∙ sym (picks_at a.recovery first w c.loop-w.auto.w))
