-- `jobfile_write::put_kind` meets its contract: length and kind lie one after the other. Assumes nothing.
use mathlib.Core.Path.{◌≡◌, refl, ap, ◌∙◌}
use mathlib.Core.List.{List, ◌++◌}
use Prim.Native.Nat.{ℕ}
use lib.ListN.{length, drop}
use Rattle.jobfile.specs.Bytes.{over}
use Rattle.jobfile.proofs.Over.{over_part}
use Rattle.jobfile_write.specs.Writing.{bytes_of}
use Rattle.jobfile_write.proofs.Lengths.{two_bytes}
use Rattle.jobfile_write.proofs.put_kind.Goals as goal

pub returns : goal.returns
unfolding bytes_of
returns c =
    let a = c.args in
    let size : c.copy_from_slice.new.self ≡ bytes_of 2 a.size = c.copy_from_slice.ensures.after ∙ c.to_le_bytes.ensures ∙ two_bytes a.size in
    let kind : c.copy_from_slice-2.new.self ≡ bytes_of 2 a.kind = c.copy_from_slice-2.ensures.after ∙ c.to_le_bytes-2.ensures ∙ two_bytes a.kind in
    over_part a.free.now _ (bytes_of 2 a.size) _ 2 2 (ap (λ (l : List ℕ). l ++ drop 2 a.free.now) size) refl (ap length kind)
    ∙ ap (λ (l : List ℕ). over (bytes_of 2 a.size ++ l) a.free.now) kind
