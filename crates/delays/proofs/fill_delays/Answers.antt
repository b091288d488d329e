-- `delays::fill_delays` meets its contract. After p turns the nine cells hold the row of the first p finishes and the words of their jobs the delays
-- (Walked); each turn's row follows from the last by formula (6), and after all finishes every word is written.
-- Assumes nothing.
use native.Mathlib.Omega.{arith}
use Rattle.delays.proofs.Walk.{Turn, turn_at, walked_none, next_fits, walked_more, walked_done}
use Rattle.delays.proofs.fill_delays.Goals as goal
use Rattle.delays.proofs.fill_delays.Goals.{After-job_at-job}

-- ---- before the first turn

pub loop-p-init : goal.loop-p-init
loop-p-init c = let a = c.args in walked_none a.table.now a.faults.k a.delays.now

-- ---- one turn

turn : (c : After-job_at-job) → Turn c.args.table.now c.fault_free-finishes.result c.loop-p.p c.job_at-job.result
turn c =
    turn_at _ _ _ _ c.words-words.ensures.good (rw c.words-words.ensures.all at c.fault_free-finishes.ensures) c.in_order-order.ensures c.jobs-n.ensures.count
    c.loop-p.p c.loop-p-test.true _ c.job_at-job.ensures

pub bounds-finishes-job : goal.bounds-finishes-job
bounds-finishes-job c = let t = turn (goal.at.bounds-finishes-job c).After-job_at-job in omega (arith, t.job_below, t.good.few_jobs)

pub offset_bounds-finishes-job : goal.offset_bounds-finishes-job
offset_bounds-finishes-job c = let t = turn (goal.at.offset_bounds-finishes-job c).After-job_at-job in omega (arith, t.job_below, t.good.few_jobs)

pub next_row-row-requires : goal.next_row-row-requires
next_row-row-requires c =
    next_fits c.loop-p.invariant (turn (goal.at.next_row-row-requires c).After-job_at-job) c.idle_between-free.ensures (rw c.words-words.ensures.all at c.recovery.ensures)

pub bounds-delays-job : goal.bounds-delays-job
bounds-delays-job c = omega (arith, (turn (goal.at.bounds-delays-job c).After-job_at-job).job_below, c.loop-p.invariant.long, c.requires)

pub offset_bounds-delays-job : goal.offset_bounds-delays-job
offset_bounds-delays-job c = let t = turn (goal.at.offset_bounds-delays-job c).After-job_at-job in omega (arith, t.job_below, t.good.few_jobs)

pub loop-p-preserved : goal.loop-p-preserved
loop-p-preserved c =
    walked_more c.loop-p.invariant (turn (goal.at.loop-p-preserved c).After-job_at-job) c.idle_between-free.ensures (rw c.words-words.ensures.all at c.recovery.ensures) c.args.faults.few c.next_row-row.ensures c.requires

-- ---- after the last turn

pub returns : goal.returns
returns c = walked_done c.loop-p.invariant c.requires (omega (arith, c.jobs-n.ensures.count))
