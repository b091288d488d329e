-- `jobfile_write::put_head` meets its contract: k, which is a byte, lies after length and kind. Assumes nothing.
use Prim.Native.Nat.{ℕ, ◌<◌}
use native.Mathlib.Nat.{mod-eq_of_lt}
use native.Mathlib.Omega.{arith}
use mathlib.Core.Path.{ap, ◌∙◌}
use mathlib.Core.List.{List}
use lib.ListN.{set}
use lib.Dec.{lit<}
use Rattle.jobfile.proofs.Over.{over_one_more}
use Rattle.jobfile_write.specs.Writing.{bytes_of, head_bytes}
use Rattle.jobfile_write.proofs.put_head.Goals as goal

pub returns : goal.returns
unfolding head_bytes bytes_of
returns c =
    let a = c.args in
    let small : a.faults.k < 256 = omega (arith, a.faults.few) in
    ap (λ (l : List ℕ). set l 4 a.faults.k) c.put_kind.ensures
    ∙ over_one_more (head_bytes a.faults.k) a.free.now 4 a.faults.k (lit< tt) (omega arith) (mod-eq_of_lt small)
