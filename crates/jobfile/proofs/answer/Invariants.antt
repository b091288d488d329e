use Prim.Native.Nat.{ℕ}
use mathlib.Core.Path.{◌≡◌}
use mathlib.Core.List.{List}
use Rattle.jobfile.proofs.Walk.{Passed}
use Rattle.jobfile.proofs.answer.Given as goal

abbrev pub invariant-loop-record : goal.invariant-loop-record
invariant-loop-record l =
    let reader = l.record-iterator in
    (rows : List ℕ) × (reader.file.now ≡ l.file) × Passed reader.file.now reader.at reader.contents.n reader.contents.k rows × (l.contents ≡ reader.contents)
