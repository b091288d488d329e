-- `report_text::Reported::put_counts` meets its contract: after i turns the counts of the first i jobs are put. Assumes nothing.
use native.Mathlib.Omega.{arith}
use Rattle.std.proofs.lemmas.List.{get_or-take}
use Rattle.text.proofs.Growing.{each_none, each_more}
use Rattle.report_text.proofs.Reported.put_counts.Goals as goal

pub loop-count-init : goal.loop-count-init
loop-count-init c = each_none _

pub loop-count-preserved : goal.loop-count-preserved
loop-count-preserved c =
    let l = c.loop-count in
    let same = get_or-take c.jobs.result c.args.self.now.pattern.now l.count-index 0 (omega arith) in
    each_more _ l.count-index l.invariant (rw (c.from.ensures, same) at c.put_labelled.ensures)
