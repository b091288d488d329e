-- `jobfile_write::write` meets its contract: where nothing is refused there is room and the file lies over the start, and under a refusal nothing
-- is touched. Assumes nothing.
use Prim.Native.Nat.{ℕ, ◌+◌, ◌*◌}
use native.Mathlib.Omega.{arith}
use mathlib.Core.Path.{◌≡◌, sym, ap, ◌∙◌}
use mathlib.Core.List.{List, ◌++◌}
use lib.ListN.{length}
use borrow.Author.Tests.{ltb-true, ltb-false}
use Rattle.std.specs.Prelude.{Ok}
use Rattle.std.proofs.lemmas.Result.{err_from_is_err_and}
use Rattle.jobs.specs.Table.{jobs}
use Rattle.jobs.specs.declared.refusal.Reason.TheVariants.{ShortFile}
use Rattle.jobs.proofs.Refusals.{not-given}
use Rattle.jobfile.specs.Bytes.{over}
use Rattle.jobfile.proofs.Over.{over_lent}
use Rattle.jobfile.proofs.Records.{is_given}
use Rattle.jobfile_write.specs.Writing.{head_bytes, jobs_bytes, file_of}
use Rattle.jobfile_write.proofs.Lengths.{head_bytes-length, file_of-length}
use Rattle.jobfile_write.proofs.Order.{room_last, all_fine, writes_nothing}
use Rattle.jobfile_write.proofs.write.Goals as goal

pub returns-in_err-given : goal.returns-in_err-given
returns-in_err-given c =
    let a = c.args in
    let t = c.in_ok-table.ensures in
    let e = err_from_is_err_and c.from_residual-in_err-given.result c.from_residual-in_err-given.ensures.1 in
    let size : length (file_of a.table.now a.k) ≡ 5 + 20 * c.jobs.result = omega (arith, file_of-length a.table.now a.k, c.jobs.ensures.count ∙ ap jobs t.0) in
    let r = is_given _ ShortFile _ (sym c.in_err-given.ensures) in
    rw (e.1, e.2, r.1)
    (writes_nothing _ _ _ _ (room_last a.table.now a.k (length a.file.now) t.1 c.in_ok-faults.ensures.1 _ size (ltb-true _ _ r.0)))

pub returns : goal.returns
unfolding file_of
returns c =
    let a = c.args in
    let table = c.in_ok-table.table in
    let t = c.in_ok-table.ensures in
    let f = c.in_ok-faults.ensures in
    let size : 5 + 20 * c.jobs.result ≡ length (file_of a.table.now a.k) = omega (arith, file_of-length a.table.now a.k, c.jobs.ensures.count ∙ ap jobs t.0) in
    let room = ltb-false _ _ (not-given _ ShortFile _ (sym c.in_ok-given.ensures)) in
    let fine = all_fine a.table.now a.k (length a.file.now) t.1 f.1 (omega arith) in
    record {
      answers = rw fine (ap Ok size);
      fills =
          rw fine
          (over_lent a.file.now _ _ (head_bytes c.in_ok-faults.faults.k) (jobs_bytes (jobs table) table) 5 c.put_head.ensures (head_bytes-length c.in_ok-faults.faults.k) (omega arith) c.put_jobs.ensures
          ∙ ap (λ (k : ℕ). over (head_bytes k ++ jobs_bytes (jobs table) table) a.file.now) f.0
          ∙ ap (λ (l : List ℕ). over (head_bytes a.k ++ jobs_bytes (jobs l) l) a.file.now) t.0);
    }
