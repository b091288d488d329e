use mathlib.Core.Path.{◌≡◌}
use Rattle.std.specs.Slice.Iter.{chunks_exact_rest, chunks_exact_size}
use Rattle.jobfile_write.proofs.Laid.{JobsLaid}
use Rattle.jobfile_write.proofs.put_jobs.Given as goal

abbrev pub invariant-loop-i : goal.invariant-loop-i
invariant-loop-i l =
    let chunks = l.i-iterator.iter in
    JobsLaid l.table l.initial.free l.free (chunks_exact_rest chunks) l.i-iterator.count × (chunks_exact_size chunks ≡ 4)
