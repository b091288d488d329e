-- `judge::turns::Turns::unwound` meets its contract: the counts of the turns passed are in place, and the turns before are still to unwind.
-- Assumes nothing.
use native.Mathlib.Omega.{arith}
use native.Mathlib.Nat.{lt_of_lt_of_le, le_antisymm}
use Prim.Native.Nat.{◌-◌, ◌<◌, zero-le}
use mathlib.Core.List.{[]}
use Rattle.latest.proofs.Walk.{job_at_turn}
use Rattle.judge.proofs.ByTurn.{turn-job, turn_below}
use Rattle.judge.proofs.Unwinding.{trail_here, note_is, note_within, unwinding_none, unwinding_more, unwinding_done, turn_before}
use Rattle.judge.proofs.turns.Turns.unwound.Goals as goal

pub loop-p-init : goal.loop-p-init
loop-p-init c =
    let a = c.args in
    let t = c.self.inside.words.now in
    unwinding_none t a.faults.k (job_at_turn t a.own) _ (trail_here a.faults.k a.own c.self.view_is c.requires).stops_at

pub bounds-counts-job : goal.bounds-counts-job
bounds-counts-job c =
    let a = c.args in
    let i = c.self.inside in
    let b = c.self.invariant in
    let p = c.loop-p.p in
    let before = turn_before i.words.now a.faults.k (job_at_turn i.words.now a.own) i.n p c.loop-p.w c.loop-p.counts b.all c.loop-p-test.true c.loop-p.invariant in
    lt_of_lt_of_le (turn_below i.words.now i.order.now i.n (p - 1) b.arrivals b.all b.few before) b.few

pub offset_bounds-counts-job : goal.offset_bounds-counts-job
offset_bounds-counts-job c = omega (arith, bounds-counts-job c)

pub overflow_sub-w : goal.overflow_sub-w
overflow_sub-w c =
    let a = c.args in
    let t = c.self.inside.words.now in
    let few : c.loop-p.w < 9 = omega (arith, c.loop-p.invariant.few, a.faults.few) in
    rw c.from-w.ensures
    (note_within t a.faults.k (job_at_turn t a.own) a.trail.now c.loop-p.p c.loop-p.w [] c.loop-p.counts (trail_here a.faults.k a.own c.self.view_is c.requires) c.loop-p-test.true few c.loop-p.invariant)

pub loop-p-preserved : goal.loop-p-preserved
loop-p-preserved c =
    let a = c.args in
    let i = c.self.inside in
    let t = i.words.now in
    let b = c.self.invariant in
    let p = c.loop-p.p in
    let job = job_at_turn t a.own in
    let few : c.loop-p.w < 9 = omega (arith, c.loop-p.invariant.few, a.faults.few) in
    let before = turn_before t a.faults.k job i.n p c.loop-p.w c.loop-p.counts b.all c.loop-p-test.true c.loop-p.invariant in
    let note = note_is t a.faults.k job a.trail.now p c.loop-p.w [] c.loop-p.counts (trail_here a.faults.k a.own c.self.view_is c.requires) c.loop-p-test.true few c.loop-p.invariant in
    rw (c.from.ensures, c.from-w.ensures)
    (unwinding_more t a.faults.k job p c.loop-p.w _ _ c.loop-p.counts c.loop-p-test.true (rw b.all at b.few) (turn-job t i.order.now i.n (p - 1) b.arrivals b.all b.few before) note c.loop-p.invariant)

pub returns : goal.returns
returns c =
    let a = c.args in
    let t = c.self.inside.words.now in
    rw (← c.self.view_is) (unwinding_done t a.faults.k (job_at_turn t a.own) c.loop-p.p c.loop-p.w c.loop-p.counts (le_antisymm c.loop-p-test.false zero-le) c.loop-p.invariant)
