-- What delays asks of the frame is never refused: the fault-free finishes of a good table. Assumes nothing.
use Prim.Native.Nat.{ℕ, ◌≤◌}
use mathlib.Core.Path.{◌≡◌, ap, ◌∙◌}
use mathlib.Core.List.{List}
use lib.ListN.{length, replicate}
use Rattle.jobs.specs.Table.{jobs}
use Rattle.jobs.specs.Arrays.{Holds}
use Rattle.jobs.specs.Refusals.{fine, first, table_refusals}
use Rattle.jobs.proofs.Refusals.{good}
use Rattle.frame.specs.Delays.{fault_free}
use Rattle.schedule.specs.Asks.{fault_free_finishes, fill}
use Rattle.schedule.proofs.Fill.{length-fill, fill_at}

-- The fault-free finishes of a table of at most 64 jobs, in an array of 64 words.
pub record Finishes (table finishes : List ℕ) : Type 0 where
  pub few : jobs table ≤ 64
  pub holds : Holds 64 finishes (jobs table) (fault_free table)

pub fault_free_finishes_lem : (table finishes : List ℕ) → first (table_refusals table) ≡ fine → finishes ≡ fault_free_finishes table → Finishes table finishes
fault_free_finishes_lem table finishes none e =
    let zeros : List ℕ = replicate 64 0 in
    let few = (good table none).few_jobs in
    let filled : finishes ≡ fill (jobs table) (fault_free table) zeros = rw none at e in
    record {
      few = few;
      holds =
          record {
            long = ap length filled ∙ length-fill (fault_free table) zeros (jobs table) few;
            each = λ i l. rw filled (fill_at (fault_free table) zeros (jobs table) i l);
          };
    }
