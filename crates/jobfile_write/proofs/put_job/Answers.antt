-- `jobfile_write::put_job` meets its contract. The loop's invariant: the words passed lie after length and kind; each turn is a law. Assumes nothing.
use Prim.Native.Nat.{ℕ}
use native.Mathlib.Omega.{arith}
use mathlib.Core.Path.{refl, sym, ap, ◌∙◌}
use mathlib.Core.List.{List, ◌++◌, append-nil, append_assoc}
use lib.ListN.{get_or, take}
use lib.Seq.{take_all}
use Rattle.jobfile.specs.Bytes.{over}
use Rattle.jobfile_write.specs.Writing.{bytes_of, word_bytes, job_bytes}
use Rattle.jobfile_write.proofs.Lengths.{four_bytes}
use Rattle.jobfile_write.proofs.Laid.{free-length, words_more}
use Rattle.jobfile_write.proofs.put_job.Goals as goal

pub loop-i-init : goal.loop-i-init
unfolding word_bytes
loop-i-init c = c.put_kind.ensures ∙ ap (λ (l : List ℕ). over l c.args.free.now) (sym (append-nil (bytes_of 2 18 ++ bytes_of 2 2)))

pub slice_bounds-copy_from_slice-end : goal.slice_bounds-copy_from_slice-end
unfolding bytes_of
slice_bounds-copy_from_slice-end c =
    let a = c.args in
    let l = free-length (bytes_of 2 18 ++ bytes_of 2 2) a.row.now a.free.now refl c.loop-i.free c.loop-i.i c.loop-i.invariant (omega arith) (omega arith) in
    omega arith

pub loop-i-preserved : goal.loop-i-preserved
unfolding bytes_of
loop-i-preserved c =
    let a = c.args in
    words_more (bytes_of 2 18 ++ bytes_of 2 2) a.row.now a.free.now refl c.loop-i.free c.loop-i.i c.loop-i.invariant _ _ _ (omega arith)
    (c.copy_from_slice.ensures.after ∙ c.to_le_bytes.ensures ∙ four_bytes (get_or a.row.now c.loop-i.i 0)) refl (omega arith)

pub returns : goal.returns
unfolding job_bytes
returns c =
    let a = c.args in
    c.loop-i.invariant
    ∙ ap (λ (l : List ℕ). over l a.free.now)
    (append_assoc (bytes_of 2 18) (bytes_of 2 2) (word_bytes (take c.loop-i.i a.row.now))
    ∙ ap (λ (r : List ℕ). bytes_of 2 18 ++ (bytes_of 2 2 ++ word_bytes r)) (take_all c.loop-i.i a.row.now (omega arith)))
