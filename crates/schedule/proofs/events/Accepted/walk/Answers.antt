-- `schedule::events::Accepted::walk` meets its contract. At each event what is left and what is written are the definition's (`Along`); an event
-- keeps that and is one of at most 2n (`turns`), and when no event is left every job's finish is written.
-- Assumes nothing.
use mathlib.Core.Path.{sym, ◌∙◌}
use lib.ListN.{take}
use Rattle.jobs.proofs.Refusals.{good}
use Rattle.schedule.proofs.Walk.{Begun, along_first, along_idle, turns-idle, all_written, places, fits_run, along_run, turns-run}
use Rattle.schedule.proofs.events.Accepted.walk.Goals as goal

pub loop-job-init : goal.loop-job-init
loop-job-init c =
    let n = c.jobs-n.result in
    let begun : Begun c.args.self.now.table c.args.self.now.pattern.now c.args.finishes.now n (take n c.by_urgency-ranking.result.job) c.ready_times-times.result =
    record {
      good = good c.args.self.now.table c.words.ensures.good;
      counts = c.args.self.now.counts;
      room = c.requires.room;
      all_jobs = c.jobs-n.ensures.count;
      order_is = rw (c.jobs-n.ensures.count, c.by_urgency-ranking.ensures, c.words.ensures.all);
      times_are = c.ready_times-times.ensures;
    } in
    record { begun = begun; along = along_first begun c.needs-left.result c.needs-left.ensures }

pub pick-job-requires : goal.pick-job-requires
pick-job-requires c = let now = c.loop-job.invariant in places now.begun now.along

pub run_on-time-requires : goal.run_on-time-requires
run_on-time-requires c = let now = c.loop-job.invariant in fits_run now.begun now.along (sym c.in-Some-default.is-0 ∙ c.pick-job.ensures)

pub returns-in-None-None : goal.returns-in-None-None
returns-in-None-None c =
    let now = c.loop-job.invariant in
    let none = c.in-None-None in
    all_written now.begun now.along (sym none.is-0 ∙ c.pick-job.ensures) (rw none.is-1 at c.next_ready-next.ensures)

pub loop-job-smaller-in-Some-default : goal.loop-job-smaller-in-Some-default
loop-job-smaller-in-Some-default c =
    let now = c.loop-job.invariant in
    turns-run now.begun now.along (sym c.in-Some-default.is-0 ∙ c.pick-job.ensures) c.next_ready-next.ensures c.run_on-time.ensures

pub loop-job-preserved-in-Some-default : goal.loop-job-preserved-in-Some-default
loop-job-preserved-in-Some-default c =
    let now = c.loop-job.invariant in
    record {
      begun = now.begun;
      along = along_run now.begun now.along (sym c.in-Some-default.is-0 ∙ c.pick-job.ensures) c.next_ready-next.ensures c.run_on-time.ensures;
    }

pub loop-job-smaller : goal.loop-job-smaller
loop-job-smaller c =
    let now = c.loop-job.invariant in
    let idle = c.in-None-Some in
    turns-idle now.begun now.along (sym idle.is-0 ∙ c.pick-job.ensures) (rw idle.is-1 at c.next_ready-next.ensures)

pub loop-job-preserved : goal.loop-job-preserved
loop-job-preserved c =
    let now = c.loop-job.invariant in
    let idle = c.in-None-Some in
    record { begun = now.begun; along = along_idle now.begun now.along (sym idle.is-0 ∙ c.pick-job.ensures) (rw idle.is-1 at c.next_ready-next.ensures) }
