-- `judge::asks::hand_out` meets its contract: the counts unwound for the job reach its latest finish, and fill the buffer. Assumes nothing.
use Prim.Native.Nat.{ℕ}
use mathlib.Core.Path.{◌∙◌, ap}
use Rattle.jobs.specs.Arrays.{values}
use Rattle.schedule.specs.Asks.{fill}
use Rattle.judge.proofs.Answers.{counts_handed}
use Rattle.judge.proofs.asks.hand_out.Goals as goal

pub returns : goal.returns
returns c =
    let a = c.args in
    let counts = c.counts_of-counts.result in
    counts_handed a.table.now a.faults.k a.job.0 counts a.pattern.now c.fill_from.new.buffer c.new-turns.ensures.good c.requires.0 (rw c.new-turns.ensures.same at c.counts_of-counts.ensures)
    (c.fill_from.ensures ∙ ap (λ (m : ℕ). fill m (values counts) a.pattern.now) c.jobs.ensures.count)
