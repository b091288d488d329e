-- `jobfile::ReaderIterator::next` meets its contract: a job that is answered is not the 65th. Assumes nothing.
use Prim.Native.Nat.{◌-◌}
use native.Mathlib.Omega.{arith}
use mathlib.Core.Path.{sym, ap, ◌∙◌}
use lib.ListN.{length, take, drop}
use Rattle.std.specs.Prelude.{Ok}
use Rattle.jobfile.proofs.Records.{as_job}
use Rattle.jobfile.proofs.ReaderIterator.next.Goals as goal

pub overflow_add-self-in-Ok-Job : goal.overflow_add-self-in-Ok-Job
overflow_add-self-in-Ok-Job c =
    let r = c.args.self.now in
    let left = take (length r.file.now - r.at) (drop r.at r.file.now) in
    let j = as_job left r.at r.contents.n (sym c.record_of.ensures ∙ c.in-Ok-Job.is ∙ ap Ok c.in-Ok-Job.field-0-is) in
    omega arith
