-- Shorter runs and recoveries, and fewer failures, make no job end later: with the same ready times and deadlines, if no job needs more, then at no time is
-- more work left of the jobs at least as urgent, so that it runs empty no later. Assumes nothing.
use Prim.Native.Nat.{ℕ, zero, suc, ◌≤◌, ◌<◌}
use native.Mathlib.Omega.{arith}
use mathlib.Core.Path.{◌≡◌}
use mathlib.Core.Bool.{Bool, cond, ◌&&◌}
use mathlib.Core.List.{List}
use lib.Dec.{ltb, eqb}
use borrow.Author.Tests.{ltb-true, ltb-false}
use Rattle.jobs.specs.Table.{jobs, ready, deadline}
use Rattle.jobs.specs.Urgency.{by_key, urgent}
use Rattle.jobs.proofs.Below.{by_cases, total-le}
use Rattle.frame.specs.Schedule.{need, finish}
use Rattle.frame.proofs.Work.{work, arrives, work_start, present_is, work-next}
use Rattle.frame.proofs.Finish.{at_least, at_least_closed, runs_empty, work_empties, finish_law}

-- a frame that runs shorter: the same jobs, ready times and deadlines, and no job needs more
pub record Shorter (table pattern table' pattern' : List ℕ) : Type 0 where
  pub same_jobs : jobs table' ≡ jobs table
  pub same_ready : (job : ℕ) → job < jobs table → ready table' job ≡ ready table job
  pub same_deadline : (job : ℕ) → job < jobs table → deadline table' job ≡ deadline table job
  pub no_more : (job : ℕ) → job < jobs table → need table' pattern' job ≤ need table pattern job

module _ (table pattern table' pattern' : List ℕ) (s : Shorter table pattern table' pattern') (job : ℕ) (is_job : job < jobs table) where
  -- the jobs at least as urgent are the same
  same_urgency : (other : ℕ) → other < jobs table → at_least table' job other ≡ at_least table job other
  unfolding at_least urgent by_key
  same_urgency other l = rw (s.same_deadline other l, s.same_deadline job is_job)

  part : (set : Bool) (at t less more : ℕ) → less ≤ more → cond (set && eqb at t) less 0 ≤ cond (set && eqb at t) more 0
  part set at t less more h = by_cases (set && eqb at t) (λ e. rw e h) (λ e. rw e (omega arith))

  no_more_arrives : (t : ℕ) → arrives table' pattern' (at_least table' job) t ≤ arrives table pattern (at_least table job) t
  unfolding arrives
  no_more_arrives t =
      rw s.same_jobs
      (total-le (jobs table) _ _
      (λ i l. rw (same_urgency i l, s.same_ready i l) (part (at_least table job i) (ready table i) t (need table' pattern' i) (need table pattern i) (s.no_more i l))))

  no_more_work : (t : ℕ) → work table' pattern' (at_least table' job) t ≤ work table pattern (at_least table job) t
  no_more_work zero = omega (arith, work_start table' pattern' (at_least table' job))
  no_more_work (suc t) =
      omega (
        arith,
        work-next table' pattern' (at_least table' job) (at_least_closed table' job) t,
        work-next table pattern (at_least table job) (at_least_closed table job) t,
        present_is table' pattern' (at_least table' job) t,
        present_is table pattern (at_least table job) t,
        no_more_arrives t,
        no_more_work t,
      )

  -- No job ends later.
  pub shorter_no_later : 0 < need table' pattern' job → finish table' pattern' job ≤ finish table pattern job
  shorter_no_later needs =
      let is_job' : job < jobs table' = omega (arith, s.same_jobs) in
      let needed : 0 < need table pattern job = omega (arith, s.no_more job is_job) in
      let short = work_empties table' pattern' job is_job' needs in
      let full = work_empties table pattern job is_job needed in
      let e' = runs_empty table' pattern' job in
      let e = runs_empty table pattern job in
      by_cases (ltb e e')
      (λ t. let left = short.before e (omega (arith, full.later, s.same_ready job is_job)) (ltb-true e e' t) in absurd (omega (arith, no_more_work e, full.zero)))
      (λ t. let no-later = ltb-false e e' t in omega (arith, finish_law table' pattern' job is_job' needs, finish_law table pattern job is_job needed))
