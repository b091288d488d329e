-- `judge::turns::Turns::all_latest` meets its contract: after q turns the jobs of the first q turns have their latest finishes in place.
-- Assumes nothing.
use native.Mathlib.Omega.{arith}
use native.Mathlib.Nat.{lt_of_lt_of_le}
use Rattle.judge.proofs.ByTurn.{turn-job, turn_below}
use Rattle.judge.proofs.Judging.{late_more, late_all}
use Rattle.judge.proofs.turns.Turns.all_latest.Goals as goal

pub bounds-late-job : goal.bounds-late-job
bounds-late-job c =
    let i = c.self.inside in
    let b = c.self.invariant in
    lt_of_lt_of_le (turn_below i.words.now i.order.now i.n c.loop-q.q b.arrivals b.all b.few c.loop-q-test.true) b.few

pub offset_bounds-late-job : goal.offset_bounds-late-job
offset_bounds-late-job c = omega (arith, bounds-late-job c)

pub loop-q-preserved : goal.loop-q-preserved
loop-q-preserved c =
    let i = c.self.inside in
    let b = c.self.invariant in
    late_more i.words.now c.args.faults.k c.loop-q.q _ c.latest_at.result c.loop-q.late
    (turn-job i.words.now i.order.now i.n c.loop-q.q b.arrivals b.all b.few c.loop-q-test.true)
    (bounds-late-job c)
    (rw c.self.view_is c.latest_at.ensures)
    c.loop-q.invariant

pub returns : goal.returns
returns c =
    rw (← c.self.view_is)
    (late_all c.self.inside.words.now c.args.faults.k c.self.inside.n c.loop-q.q c.loop-q.late c.self.invariant.all c.loop-q-test.false c.loop-q.invariant)
