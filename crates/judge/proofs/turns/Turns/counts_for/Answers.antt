-- `judge::turns::Turns::counts_for` meets its contract by the verdict's two cases; the named job of a miss is a job of the table. Assumes nothing.
use Rattle.judge.proofs.Answers.{named_below}
use Rattle.judge.proofs.turns.Turns.counts_for.Goals as goal

pub counts_of-requires : goal.counts_of-requires
counts_of-requires c =
    let a = c.args in
    named_below a.self.now a.faults.k a.verdict _ _ c.requires c.in-Miss.is
