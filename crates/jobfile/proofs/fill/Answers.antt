-- `jobfile::fill` meets its contract. The loop's invariant: the rows of the records passed lie over the table, and the bytes that are still to be cut
-- are those after them; each turn is a law of filling. Assumes nothing.
use Prim.Native.Nat.{ℕ, ◌+◌, ◌*◌, ◌-◌}
use native.Mathlib.Omega.{arith}
use mathlib.Core.Path.{ap, ◌∙◌}
use lib.ListN.{length}
use Rattle.jobfile.proofs.Over.{lent}
use Rattle.jobfile.proofs.Filling.{filling_none, filling_length, room_for_own, others_left, filling_more, filling_all}
use Rattle.jobfile.proofs.fill.Goals as goal

pub slice_bounds-chunks_exact-count : goal.slice_bounds-chunks_exact-count
slice_bounds-chunks_exact-count c = let f = filling_none c.args.file.now c.args.table.now _ c.first_job-first.ensures in f.passed.inside

pub slice_bounds-chunks_exact-start : goal.slice_bounds-chunks_exact-start
slice_bounds-chunks_exact-start c = let f = filling_none c.args.file.now c.args.table.now _ c.first_job-first.ensures in omega (arith, f.passed.inside)

pub loop-i-init : goal.loop-i-init
loop-i-init c =
    let first = c.first_job-first.result in
    let file = c.args.file.now in
    let chunks = c.chunks_exact.ensures in
    let numbered = c.enumerate-i-items.ensures in
    let same = c.into_iter-i-iterator.ensures.into_iter_gives in
    let f = filling_none file c.args.table.now first c.first_job-first.ensures in (
      first,
      rw (same, numbered.count) f,
      rw (same, numbered.source) (chunks.rest ∙ lent file first (length file - first) (omega (arith, f.passed.inside))),
      rw (same, numbered.source) chunks.size,
    )

pub slice_bounds-copy_from_slice-end : goal.slice_bounds-copy_from_slice-end
slice_bounds-copy_from_slice-end c =
    let a = c.args in
    let i = c.loop-i.invariant in
    let s = c.in-Some.ensures.steps in
    let r = room_for_own a.file.now a.table.now c.loop-i.table i.0 (c.loop-i.i-iterator.count * 4) c.requires i.1 _ c.in-Some.record.now _ i.2 s.0.1.0 (s.0.1.1 ∙ i.3) in
    let l = filling_length a.file.now a.table.now c.loop-i.table i.0 (c.loop-i.i-iterator.count * 4) c.requires i.1 in
    omega arith

pub loop-i-preserved : goal.loop-i-preserved
loop-i-preserved c =
    let a = c.args in
    let i = c.loop-i.invariant in
    let s = c.in-Some.ensures.steps in (
      i.0 + 20,
      filling_more a.file.now a.table.now c.loop-i.table i.0 (c.loop-i.i-iterator.count * 4) c.requires i.1 _ c.in-Some.record.now _ i.2 s.0.1.0 (s.0.1.1 ∙ i.3)
          _ _ _ _ (c.copy_from_slice.ensures.after ∙ c.row.ensures) (ap (λ (n : ℕ). n * 4) s.1) (omega arith) (omega arith),
      others_left a.file.now a.table.now c.loop-i.table i.0 (c.loop-i.i-iterator.count * 4) c.requires i.1 _ c.in-Some.record.now _ i.2 s.0.1.0 (s.0.1.1 ∙ i.3),
      s.0.0 ∙ i.3,
    )

pub returns : goal.returns
returns c =
    let a = c.args in
    let i = c.loop-i.invariant in
    let s = c.in-None.ensures.steps in
    filling_all a.file.now a.table.now c.loop-i.table i.0 (c.loop-i.i-iterator.count * 4) c.requires i.1 _ i.2 (omega (arith, s.0.1.0, i.3))
