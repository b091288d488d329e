-- `judge::turns::Turns::turn_of` meets its contract: the job is at a turn, so one is found. Assumes nothing.
use Rattle.judge.proofs.ByTurn.{found_turn}
use Rattle.judge.proofs.turns.Turns.turn_of.Goals as goal

pub returns-clause-at : goal.returns-clause-at
returns-clause-at c =
    let i = c.self.inside in
    let b = c.self.invariant in
    rw (c.unwrap_or.ensures, ← c.self.view_is)
    (found_turn i.words.now i.order.now i.n c.args.job.0 b.arrivals b.all b.few (rw (← c.self.view_is) at c.requires) c.index_of-found.result c.index_of-found.ensures)
