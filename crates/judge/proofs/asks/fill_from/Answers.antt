-- `judge::asks::fill_from` meets its contract: the words that are copied are the first n results. Assumes nothing.
use mathlib.Core.Path.{◌∙◌, ap}
use mathlib.Core.List.{List, ◌++◌}
use Prim.Native.Nat.{ℕ}
use lib.ListN.{drop}
use Rattle.schedule.specs.Asks.{fill}
use Rattle.judge.proofs.Answers.{take_listed}
use Rattle.judge.proofs.asks.fill_from.Goals as goal

pub returns : goal.returns
unfolding fill
returns c =
    let a = c.args in
    ap (λ (xs : List ℕ). xs ++ drop a.n a.buffer.now) (c.copy_from_slice.ensures.after ∙ take_listed a.results.now a.n (rw c.told-results c.requires.1))
