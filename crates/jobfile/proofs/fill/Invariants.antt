use Prim.Native.Nat.{ℕ, ◌*◌}
use mathlib.Core.Path.{◌≡◌}
use lib.ListN.{drop}
use Rattle.std.specs.Slice.Iter.{chunks_exact_rest, chunks_exact_size}
use Rattle.jobfile.proofs.Filling.{Filling}
use Rattle.jobfile.proofs.fill.Given as goal

abbrev pub invariant-loop-i : goal.invariant-loop-i
invariant-loop-i l =
    let chunks = l.i-iterator.iter in
    (at : ℕ) × Filling l.file l.initial.table l.table at (l.i-iterator.count * 4) × (chunks_exact_rest chunks ≡ drop at l.file) × (chunks_exact_size chunks ≡ 20)
