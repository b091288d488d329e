-- `judge::turns::Turns::verdict_on` meets its contract: the jobs of the first r ranks meet their deadlines, so the first that does not is the most
-- urgent. Assumes nothing.
use native.Mathlib.Omega.{arith}
use mathlib.Core.Path.{refl, sym}
use Rattle.jobs.specs.Table.{jobs}
use Rattle.judge.proofs.Judging.{named_here, met_here, met_all, taken_rank, taken_job, taken_is_job, taken_all}
use Rattle.judge.proofs.turns.Turns.verdict_on.Goals as goal

pub bounds-late-job : goal.bounds-late-job
bounds-late-job c =
    let i = c.self.inside in
    let b = c.self.invariant in
    omega (arith, taken_is_job i.words.now c.args.faults.k i.ranking.now.job i.n c.loop-job.job-index b.ranks b.all b.few c.loop-job-test.true, b.all, b.few)

pub offset_bounds-late-job : goal.offset_bounds-late-job
offset_bounds-late-job c =
    let i = c.self.inside in
    let b = c.self.invariant in
    omega (arith, taken_is_job i.words.now c.args.faults.k i.ranking.now.job i.n c.loop-job.job-index b.ranks b.all b.few c.loop-job-test.true, b.all, b.few)

pub returns-then-deadline-end : goal.returns-then-deadline-end
returns-then-deadline-end c =
    let i = c.self.inside in
    let b = c.self.invariant in
    let r = c.loop-job.job-index in
    let l = c.loop-job-test.true in
    let holds = rw (← c.self.view_is) at c.requires in
    rw (← c.self.view_is)
    (named_here i.words.now c.args.faults.k r _ _ c.deadline.result
    (taken_rank i.words.now c.args.faults.k i.ranking.now.job i.n r b.ranks b.all b.few l)
    c.loop-job.invariant
    (taken_job i.words.now c.args.faults.k i.ranking.now.job i.n r b.ranks b.all b.few l)
    (holds.each _ (taken_is_job i.words.now c.args.faults.k i.ranking.now.job i.n r b.ranks b.all b.few l))
    c.deadline.ensures
    c.if-deadline-end.true)

pub loop-job-preserved : goal.loop-job-preserved
loop-job-preserved c =
    let i = c.self.inside in
    let b = c.self.invariant in
    let r = c.loop-job.job-index in
    let l = c.loop-job-test.true in
    let holds = rw (← c.self.view_is) at c.requires in
    met_here i.words.now c.args.faults.k r _ _ c.deadline.result
    (taken_rank i.words.now c.args.faults.k i.ranking.now.job i.n r b.ranks b.all b.few l)
    c.loop-job.invariant
    (taken_job i.words.now c.args.faults.k i.ranking.now.job i.n r b.ranks b.all b.few l)
    (holds.each _ (taken_is_job i.words.now c.args.faults.k i.ranking.now.job i.n r b.ranks b.all b.few l))
    c.deadline.ensures
    c.if-deadline-end.false

pub returns : goal.returns
returns c =
    let i = c.self.inside in
    let b = c.self.invariant in
    let r = c.loop-job.job-index in
    rw (← c.self.view_is)
    (sym (met_all i.words.now c.args.faults.k (jobs i.words.now) r refl (taken_all i.words.now c.args.faults.k i.ranking.now.job i.n r b.ranks b.all b.few c.loop-job-test.false) c.loop-job.invariant))
