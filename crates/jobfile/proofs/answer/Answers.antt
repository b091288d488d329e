-- `jobfile::answer` meets its contract. The loop's invariant: the file means the rows of the records passed and what the walk from the reader's place on
-- means, and the contents are the reader's; each turn is a law of the walk. Assumes nothing.
use native.Mathlib.Omega.{arith}
use mathlib.Core.Path.{refl, sym}
use mathlib.Core.List.{[]}
use borrow.Author.Tests.{ltb-true, ltb-false}
use Rattle.std.proofs.lemmas.Result.{err_from_is_err_and}
use Rattle.jobs.specs.declared.refusal.Reason.TheVariants.{ShortTable}
use Rattle.jobs.proofs.Refusals.{not-given}
use Rattle.jobfile.proofs.Records.{is_given}
use Rattle.jobfile.proofs.Walk.{passed_none, passed_bad, passed_all, passed_length, passed_count, answers_refusal, answers_no_room, answers_table}
use Rattle.jobfile.proofs.Reading.{met_is, met_none, told_none, told_bad, passed_step}
use Rattle.jobfile.proofs.answer.Goals as goal

pub loop-record-init : goal.loop-record-init
loop-record-init c =
    let e = c.start-reader.ensures in
    rw (c.into_iter-record-iterator.ensures.into_iter_gives, e.place.0, e.place.1, e.tally.0, e.tally.1) ([], refl, passed_none c.args.file.now, refl)

pub loop-record-preserved : goal.loop-record-preserved
loop-record-preserved c =
    let i = c.loop-record.invariant in
    let s = c.in-Some.ensures.steps in
    let more = passed_step c.loop-record.record-iterator c.next.new.self i.0 c.in_ok-contents.contents i.2 (rw c.in_ok-contents.was at s) in
    (more.0, rw s.file i.1, more.1, more.2)

pub returns-in_err-contents : goal.returns-in_err-contents
returns-in_err-contents c =
    let i = c.loop-record.invariant in
    let r = c.loop-record.record-iterator in
    let e = err_from_is_err_and c.from_residual.result c.from_residual.ensures.1 in
    let told = told_bad _ r.contents _ (rw c.in_err-contents.was at c.in-Some.ensures.steps.told) in
    let met = met_is r.file.now r.at r.contents.n told in
    rw (e.1, e.2, ← i.1) (answers_refusal _ _ _ _ (passed_bad _ r.at r.contents.n r.contents.k i.0 i.2 _ met.0 met.1))

pub returns-in_err-given : goal.returns-in_err-given
returns-in_err-given c =
    let i = c.loop-record.invariant in
    let r = c.loop-record.record-iterator in
    let e = err_from_is_err_and c.from_residual-in_err-given.result c.from_residual-in_err-given.ensures.1 in
    let t = is_given _ ShortTable _ (sym c.in_err-given.ensures) in
    let end = met_none r.file.now r.at r.contents.n (told_none _ r.contents c.in-None.ensures.steps.told) in
    let short = rw i.3 at (ltb-true _ _ t.0) in
    rw (e.1, e.2, t.1, ← i.1)
    (answers_no_room _ _ _ _ _ (passed_all _ r.at r.contents.n r.contents.k i.0 i.2 end) (omega (arith, passed_length _ _ _ _ _ i.2)))

pub returns : goal.returns
returns c =
    let i = c.loop-record.invariant in
    let r = c.loop-record.record-iterator in
    let end = met_none r.file.now r.at r.contents.n (told_none _ r.contents c.in-None.ensures.steps.told) in
    let fits = rw i.3 at (ltb-false _ _ (not-given _ ShortTable _ (sym c.in_ok-given.ensures))) in
    rw (i.3, ← i.1)
    (answers_table _ _ _ _ _ _ (passed_all _ r.at r.contents.n r.contents.k i.0 i.2 end) (omega (arith, passed_length _ _ _ _ _ i.2)) (passed_count _ _ _ _ _ i.2))
