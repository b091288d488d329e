-- `jobfile_write::put_jobs` meets its contract. The loop's invariant: the jobs passed lie over the start of the free bytes, and the words that are still to be
-- cut are those after them; each turn is a law. Assumes nothing.
use Prim.Native.Nat.{ℕ, ◌*◌}
use mathlib.Core.Path.{refl, ap, ◌∙◌}
use Rattle.jobs.proofs.Refusals.{good}
use Rattle.jobfile_write.proofs.Laid.{jobs_none, jobs_more}
use Rattle.jobfile_write.proofs.put_jobs.Goals as goal

pub loop-i-init : goal.loop-i-init
loop-i-init c =
    let chunks = c.chunks_exact.ensures in
    let numbered = c.enumerate-i-items.ensures in
    let same = c.into_iter-i-iterator.ensures.into_iter_gives in (
      rw (same, numbered.count) (jobs_none c.args.table.now c.args.free.now _ (rw numbered.source (chunks.rest ∙ c.words.ensures.all))),
      rw (same, numbered.source) chunks.size,
    )

pub loop-i-preserved : goal.loop-i-preserved
loop-i-preserved c =
    let a = c.args in
    let i = c.loop-i.invariant in
    let s = c.in-Some.ensures.steps in (
      jobs_more a.table.now a.free.now c.loop-i.free _ c.loop-i.i-iterator.count (good a.table.now c.words.ensures.good).whole_rows c.requires i.0 c.in-Some.row.now _ s.0.1.0 (s.0.1.1 ∙ i.1)
          _ _ _ _ (ap (λ (n : ℕ). n * 20) s.1) refl s.2 c.put_job.ensures,
      s.0.0 ∙ i.1,
    )
