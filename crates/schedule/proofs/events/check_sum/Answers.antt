-- `schedule::events::check_sum` meets its contract. What is left and the sum of the pattern are 8 and the counts that are still to come; a count that
-- is more than what is left takes the sum over 8, whatever comes after it. Assumes nothing.
use native.Mathlib.Omega.{arith}
use mathlib.Core.Path.{sym, ◌∙◌}
use lib.Dec.{ltb}
use lib.ListN.{get_or}
use borrow.Author.Tests.{lt-ltb, le-ltb, ltb-true, ltb-false}
use Rattle.std.proofs.lemmas.Result.{err_from_is_err_and}
use Rattle.jobs.specs.declared.refusal.Reason.TheVariants.{TooManyFailures}
use Rattle.jobs.proofs.Below.{by_cases}
use Rattle.jobs.proofs.Refusals.{refused_not_fine, not-given}
use Rattle.frame.specs.Latest.{sum}
use Rattle.frame.proofs.Bounds.{sum_from, sum_past}
use Rattle.schedule.proofs.events.check_sum.Goals as goal

pub returns-in_err-given : goal.returns-in_err-given
returns-in_err-given c =
    let p = c.args.pattern.now in
    let l = c.loop-count in
    let refused = err_from_is_err_and c.from_residual.result c.from_residual.ensures.1 in
    rw (refused.1, refused.2)
    (by_cases (ltb l.left (get_or p l.count-index 0))
    (λ e.
    let over = lt-ltb 8 (sum p) (omega (arith, ltb-true l.left (get_or p l.count-index 0) e, sum_from p l.count-index c.loop-count-test.true)) in
    sym c.in_err-given.was ∙ c.given.ensures ∙ rw (e, over))
    (λ e. absurd (refused_not_fine (sym c.in_err-given.was ∙ c.given.ensures ∙ rw e))))

pub loop-count-preserved : goal.loop-count-preserved
loop-count-preserved c =
    let p = c.args.pattern.now in
    let l = c.loop-count in
    let enough = ltb-false l.left (get_or p l.count-index 0) (not-given _ TooManyFailures 0 (sym c.given.ensures ∙ c.in_ok-given.was)) in
    (omega arith, omega (arith, sum_from p l.count-index c.loop-count-test.true))

pub returns : goal.returns
returns c =
    let p = c.args.pattern.now in
    rw (le-ltb 8 (sum p) (omega (arith, sum_past p c.loop-count.count-index (omega arith))))
