-- `schedule::events::Accepted::need_of` meets its contract. The recoveries of one job come to at most 800,000, so neither the product nor the sum wraps.
-- Assumes nothing.
use Prim.Native.Nat.{◌*◌, ◌≤◌}
use native.Mathlib.Omega.{arith}
use lib.ListN.{get_or}
use Rattle.jobs.proofs.Refusals.{good}
use Rattle.frame.specs.Schedule.{need}
use Rattle.frame.proofs.Bounds.{recovery_at_most}
use Rattle.schedule.proofs.events.Accepted.need_of.Goals as goal

-- the recoveries of this job
recoveries : (c : goal.After-recovery) → get_or c.args.self.now.pattern.now c.args.job.0 0 * c.recovery.result ≤ 800000
recoveries c =
    let a = c.args in
    rw (c.recovery.ensures, c.words-words.ensures.all)
    (recovery_at_most a.self.now.table a.self.now.pattern.now (good a.self.now.table c.words-words.ensures.good) 8 (omega arith) a.self.now.counts a.job.0 c.requires.job_bound)

pub overflow_mul-result : goal.overflow_mul-result
overflow_mul-result c = omega (arith, recoveries c)

pub overflow_add-result : goal.overflow_add-result
overflow_add-result c =
    let a = c.args in
    let w = c.words-words.ensures in
    omega (arith, recoveries c, rw w.all at c.run.ensures, (good a.self.now.table w.good).run_at_most a.job.0 c.requires.job_bound)

pub returns : goal.returns
unfolding need
returns c = rw (c.run.ensures, c.recovery.ensures, c.words-words.ensures.all)
