-- The walk over the finishes, as the code does it: after p of them the nine cells hold the row of formula (6), and the words of the jobs that
-- finished hold their delays. In order: what a turn knows; at the start; one finish more; at the end. Assumes nothing.
use Prim.Native.Nat.{ℕ, suc, ◌+◌, ◌≤◌, ◌<◌}
use native.Mathlib.Numerals.{add-one}
use native.Mathlib.Omega.{arith}
use mathlib.Core.Path.{◌≡◌, refl, sym, ap, ◌∙◌}
use mathlib.Core.List.{List}
use lib.ListN.{length, get_or, set, take, replicate, length-set}
use Rattle.std.proofs.lemmas.List.{length-take}
use lib.Seq.{get_or-take, get_or-set_same, get_or-set_other}
use lib.Dec.{eqb}
use borrow.Author.Tests.{eqb-true, eqb-false}
use Rattle.jobs.specs.Table.{jobs, recovery}
use Rattle.jobs.specs.Refusals.{fine, first, table_refusals}
use Rattle.jobs.specs.Orders.{the_job, held_of, in_order}
use Rattle.jobs.specs.Arrays.{Holds, Fit, values}
use Rattle.jobs.specs.declared.Job.{Job}
use Rattle.jobs.proofs.Below.{by_cases, below_suc}
use Rattle.jobs.proofs.Placed.{get_or-filled}
use Rattle.jobs.proofs.Orders.{held_all, job_at_same}
use Rattle.jobs.proofs.Refusals.{Good, good}
use Rattle.jobs.proofs.Arrays.{holds_same, holds_zeros}
use Rattle.frame.specs.Schedule.{free_slots}
use Rattle.frame.specs.Delays.{fault_free, delay}
use Rattle.schedule.specs.Asks.{fault_free_finishes, fill}
use Rattle.schedule.proofs.Fill.{written-fill}
use Rattle.delays.specs.Rows.{next_row, rows}
use Rattle.delays.proofs.Rows.{next_same, rows_fit}
use Rattle.delays.proofs.Places.{place_of, job_at_place, last_finish, free_at, recovery_at, delay_row, places}
use Rattle.delays.proofs.Asked.{Finishes, fault_free_finishes_lem}
use Rattle.delays.proofs.Formula.{delay_is_formula}

-- ---- what a turn knows

-- p is a finishing place, this is the job at that place, and its word is its fault-free finish.
pub record Turn (table finishes : List ℕ) (p : ℕ) (job : Job) : Type 0 where
  pub good : Good table
  pub below : p < jobs table
  pub here : job ≡ the_job (job_at_place table p)
  pub job_below : job.0 < jobs table
  pub ends : get_or finishes job.0 0 ≡ fault_free table job.0

module _ (table finishes : List ℕ) (order : List Job) (n : ℕ) (none : first (table_refusals table) ≡ fine) (e : finishes ≡ fault_free_finishes table)
    (o : order ≡ in_order (take n finishes)) (all : n ≡ jobs table) where
  f : Finishes table finishes
  f = fault_free_finishes_lem table finishes none e

  keys : length (take n finishes) ≡ jobs table
  keys = omega (arith, length-take n finishes, f.holds.long, f.few, all)

  -- the job that is handed over at a place
  order_is_places : (p : ℕ) → p < jobs table → get_or order p (the_job 0) ≡ the_job (job_at_place table p)
  unfolding in_order
  order_is_places p l =
      ap (λ jobs. get_or jobs p (the_job 0)) o
      ∙ get_or-filled the_job (held_of (length (take n finishes))) _ (the_job 0) p (rw (keys, held_all (jobs table) f.few) l)
      ∙ ap the_job (rw keys (job_at_same (values (take n finishes)) (fault_free table) (jobs table) (λ i m. get_or-take n finishes i 0 (omega (arith, all)) ∙ f.holds.each i m) p))

  pub turn_at : (p : ℕ) → p < n → (job : Job) → job ≡ get_or order p (the_job 0) → Turn table finishes p job
  turn_at p l job handed =
      let below : p < jobs table = omega (arith, all) in
      let here : job ≡ the_job (job_at_place table p) = handed ∙ order_is_places p below in
      let job_below : job.0 < jobs table = rw here ((places table).at_below p below) in
      record { good = good table none; below = below; here = here; job_below = job_below; ends = f.holds.each _ job_below }

-- ---- the walk

-- After p finishes of the walk.
pub record Walked (table : List ℕ) (k : ℕ) (buffer : List ℕ) (p : ℕ) (cells : List ℕ) (last : ℕ) (now : List ℕ) : Type 0 where
  pub row : Holds 9 cells 9 (delay_row table p)
  pub since : last ≡ last_finish table p
  pub long : length now ≡ length buffer
  pub delayed : (job : ℕ) → job < jobs table → place_of table job < p → get_or now job 0 ≡ delay table k job
  pub others : (i : ℕ) → jobs table ≤ i → get_or now i 0 ≡ get_or buffer i 0

pub walked_none : (table : List ℕ) (k : ℕ) (buffer : List ℕ) → Walked table k buffer 0 (replicate 9 0) 0 buffer
unfolding rows last_finish
walked_none table k buffer = record { row = holds_zeros 9; since = refl; long = refl; delayed = λ job l m. absurd (omega arith); others = λ i l. refl }

module _ {table : List ℕ} {k : ℕ} {buffer : List ℕ} {p : ℕ} {cells : List ℕ} {last : ℕ} {now : List ℕ} (w : Walked table k buffer p cells last now) where
  -- one finish more, at which this job ends
  module _ {finishes : List ℕ} {job : Job} (t : Turn table finishes p job) where
    at : job.0 ≡ job_at_place table p
    at = ap (λ j. j.0) t.here

    -- another job of the first p + 1 places is one of the first p
    earlier_place : (i : ℕ) → i < jobs table → (i ≡ job.0 → ⊥) → place_of table i < p + 1 → place_of table i < p
    earlier_place i m d o =
        below_suc (rw add-one at o) (λ h. h)
        (λ e. absurd (d (sym ((places table).at_number i m) ∙ ap (job_at_place table) e ∙ sym at)))

    -- the row that this finish makes, with these free slots before it and this recovery
    module _ {free recovers : ℕ} (frees : free ≡ free_slots table last (get_or finishes job.0 0)) (recover : recovers ≡ recovery table job.0) where
      next_is : (u : ℕ) → u < 9 → next_row free recovers (values cells) u ≡ delay_row table (suc p) u
      unfolding rows
      next_is u m =
          rw (frees, w.since, t.ends, recover, at) (next_same (free_at table p) (recovery_at table p) (values cells) (delay_row table p) u (λ v i. w.row.each v (omega arith)))

      pub next_fits : Fit (next_row free recovers (values cells))
      next_fits =
          record {
            fits =
                λ u m.
                rw (next_is u m)
                (omega (arith, rows_fit (free_at table) (recovery_at table) 100000 (suc p) u (λ q i. t.good.recovery_at_most (job_at_place table q) ((places table).at_below q (omega (arith, t.below))))));
          }

      module _ (small : k ≤ 8) {next : List ℕ} (h : Holds 9 next 9 (next_row free recovers (values cells))) where
        -- the row's entry for k is this job's delay
        own_delay : get_or next k 0 ≡ delay table k job.0
        own_delay =
            h.each k (omega arith)
            ∙ next_is k (omega arith)
            ∙ ap (λ q. delay_row table (suc q) k) (sym ((places table).number_at p t.below))
            ∙ sym (delay_is_formula table k (job_at_place table p) t.good ((places table).at_below p t.below))
            ∙ ap (delay table k) (sym at)

        pub walked_more : jobs table ≤ length buffer → Walked table k buffer (p + 1) next (get_or finishes job.0 0) (set now job.0 (get_or next k 0))
        unfolding last_finish
        walked_more room =
            record {
              row = rw (add-one p) (holds_same 9 next 9 _ (delay_row table (suc p)) h next_is);
              since = rw (add-one p) (t.ends ∙ ap (fault_free table) at);
              long = length-set now job.0 (get_or next k 0) ∙ w.long;
              delayed =
                  λ i m o.
                  by_cases (eqb i job.0)
                  (λ e. rw (eqb-true i job.0 e) (get_or-set_same now job.0 (get_or next k 0) 0 (omega (arith, t.job_below, w.long)) ∙ own_delay))
                  (λ e.
                  get_or-set_other now job.0 i (get_or next k 0) 0 (eqb-false i job.0 e)
                  ∙ w.delayed i m (earlier_place i m (eqb-false i job.0 e) o));
              others = λ i m. get_or-set_other now job.0 i (get_or next k 0) 0 (λ q. omega (arith, t.job_below)) ∙ w.others i m;
            }

  pub walked_done : jobs table ≤ length buffer → jobs table ≤ p → now ≡ fill (jobs table) (delay table k) buffer
  walked_done room l =
      written-fill (delay table k) buffer (jobs table) now room
      (record { long = w.long; results = λ i m. w.delayed i m (omega (arith, (places table).number_below i m)); others = w.others })
