-- `jobfile::strays` meets its contract: where the search stops a field is outside its range, and where it ends none is. Assumes nothing.
use Prim.Native.Nat.{ℕ, ◌<◌}
use mathlib.Core.Path.{◌≡◌, sym, ◌∙◌}
use mathlib.Core.Bool.{Bool, true, false, not}
use lib.ListN.{get_or}
use Rattle.std.proofs.Common.{rules}
use Rattle.std.proofs.iter.runs.Sources.{ranges}
use Rattle.jobs.specs.Table.{in_range}
use Rattle.jobs.proofs.Below.{by_cases, some_at, none_all}
use Rattle.jobfile.proofs.strays.Goals as goal

pub returns : goal.returns
returns c =
    let row = c.args.row in
    let stray : ℕ → Bool = λ i. not (in_range i (get_or row i 0)) in
    by_cases c.any.result
    (λ t.
    let one : (i : ℕ) × (i < 4) × (true ≡ stray i) = search (rules, ranges) in
    t ∙ sym (some_at 4 stray one.0 one.1 (sym one.2)))
    (λ t.
    let none : (i : ℕ) → i < 4 → false ≡ stray i = search (rules, ranges) in
    t ∙ sym (none_all 4 stray (λ i h. sym (none i h))))
