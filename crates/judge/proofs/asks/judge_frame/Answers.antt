-- `judge::asks::judge_frame` meets its contract: the walks by turn give every latest finish, the verdict is found by rank, and the pattern is
-- unwound for it; the two buffers are filled from arrays. Assumes nothing.
use Prim.Native.Nat.{ℕ}
use mathlib.Core.Path.{◌∙◌, ap}
use Rattle.jobs.specs.Arrays.{values}
use Rattle.frame.specs.Latest.{latest}
use Rattle.schedule.specs.Asks.{fill}
use Rattle.judge.proofs.Answers.{fill_same, handed_for}
use Rattle.judge.proofs.asks.judge_frame.Goals as goal

pub returns-clause-finishes_after : goal.returns-clause-finishes_after
returns-clause-finishes_after c =
    let a = c.args in
    let holds = rw c.new-turns.ensures.same at c.all_latest-late.ensures in
    c.fill_from.ensures
    ∙ ap (λ (m : ℕ). fill m (values c.all_latest-late.result) a.finishes.now) c.jobs-n.ensures.count
    ∙ fill_same _ (values c.all_latest-late.result) (latest a.table.now a.faults.k) a.finishes.now (λ i l. holds.each i l)

pub returns-clause-handed_for : goal.returns-clause-handed_for
returns-clause-handed_for c =
    let a = c.args in
    let counts = c.counts_for-counts.result in
    handed_for a.table.now a.faults.k c.verdict_on-verdict.result counts a.pattern.now c.fill_from-2.new.buffer c.new-turns.ensures.good (rw c.new-turns.ensures.same at c.verdict_on-verdict.ensures) (rw c.new-turns.ensures.same at c.counts_for-counts.ensures)
    (c.fill_from-2.ensures ∙ ap (λ (m : ℕ). fill m (values counts) a.pattern.now) c.jobs-n.ensures.count)
