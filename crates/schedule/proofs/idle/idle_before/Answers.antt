-- `schedule::idle::idle_before` meets its contract. After i turns `until` is when the first i jobs in the order of ready times are done and `runs` the sum of
-- their runs (Served); where the walk stops, these are the jobs ready before t, and what they leave idle is known (idle_before_lem).
-- Assumes nothing.
use Prim.Native.Nat.{◌+◌, ◌≤◌, ◌<◌}
use mathlib.Core.Path.{◌≡◌, sym, ◌∙◌}
use native.Mathlib.Omega.{arith}
use Rattle.jobs.specs.Table.{jobs}
use Rattle.jobs.proofs.Refusals.{good}
use Rattle.frame.proofs.Work.{comes_at}
use Rattle.frame.proofs.FreeSlots.{idle_before}
use Rattle.schedule.proofs.Served.{Served, served_none, served_more, served_all, all_arrive, job_arrives, came_at, runs_fit, until_fits}
use Rattle.schedule.proofs.idle.idle_before.Goals as goal
use Rattle.schedule.proofs.idle.idle_before.Goals.{else-loop-job-test, then-loop-job-test+then-t-came}

pub loop-job-init : goal.loop-job-init
loop-job-init c = served_none c.args.table.now c.args.t

-- ---- a job that is ready before t

served : (c : goal.After-max)
    → Served c.args.table.now c.args.t (c.loop-job.job-index + 1) (c.max.result + c.run-longest.result) (c.loop-job.runs + c.run-longest.result)
served c =
    let a = c.args in
    let l = c.loop-job in
    let w = c.words-words.ensures in
    let few = (good a.table.now w.good).few_jobs in
    let below : l.job-index < jobs a.table.now = omega (arith, c.loop-job-test.true, all_arrive a.table.now few c.requires) in
    rw c.max.ensures
    (served_more a.table.now a.t l.job-index l.until l.runs _ _ _ below (job_arrives a.table.now few c.requires l.job-index _ below)
    (rw w.all at c.ready-came.ensures) (rw w.all at c.run-longest.ensures) c.if-t-came.false l.invariant)

pub overflow_add-until : goal.overflow_add-until
overflow_add-until c = omega (arith, until_fits _ _ (good _ c.words-words.ensures.good) _ _ _ (served c))

pub overflow_add-runs : goal.overflow_add-runs
overflow_add-runs c = omega (arith, runs_fit _ _ (good _ c.words-words.ensures.good) _ _ _ (served c))

pub loop-job-preserved : goal.loop-job-preserved
loop-job-preserved c = served c

-- ---- a job that is not ready before t, or no job more

all-served : (c : goal.After-max-2) → idle_before c.args.table.now c.args.t + c.loop-job.runs ≡ c.max-2.result
all-served c =
    let a = c.args in
    let l = c.loop-job in
    let w = c.words-words.ensures in
    let few = (good a.table.now w.good).few_jobs in
    let later : l.job-index < jobs a.table.now → a.t ≤ comes_at a.table.now l.job-index =
    elim c.loop-job-test.branch [
      | else-loop-job-test w' ↦ λ below. absurd (omega (arith, w'.loop-job-test.false, all_arrive a.table.now few c.requires))
      | then-loop-job-test+then-t-came w' ↦
          λ below.
          omega (arith, w'.if-t-came.true, came_at a.table.now few c.requires l.job-index _ w'.ready-came.result below (rw w.all at w'.ready-came.ensures))
    ] in
    served_all a.table.now a.t l.job-index l.until l.runs later l.invariant ∙ sym c.max-2.ensures

pub overflow_sub-result : goal.overflow_sub-result
overflow_sub-result c = omega (arith, all-served c)

pub returns : goal.returns
returns c = omega (arith, all-served c)
