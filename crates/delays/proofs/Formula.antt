-- Formula (6) is the greatest extra work over all patterns: the paper's own claim.
--
-- Just after a fault-free finish a pattern's extra work is what its faults leave at the finishing places (Extra), and the row there bounds all of
-- these and is reached by one spread of faults (Rows), which as a list by job number is a pattern. Assumes nothing.
use Prim.Native.Nat.{ℕ, zero, suc, ◌+◌, ◌-◌, ◌≤◌, ◌<◌}
use native.Mathlib.Nat.{le_antisymm, add-zero, add-suc, add-sub_of_le}
use native.Mathlib.Omega.{arith}
use mathlib.Core.Path.{◌≡◌, sym, ap, ◌∙◌}
use mathlib.Core.List.{List}
use lib.ListN.{length, get_or}
use Rattle.jobs.specs.Below.{total, listed}
use Rattle.jobs.specs.Table.{jobs}
use Rattle.jobs.proofs.Below.{total_same, total_more, total_rearranged, length-listed, get_or-listed}
use Rattle.jobs.proofs.Refusals.{Good}
use Rattle.frame.specs.Latest.{sum, AtMost}
use Rattle.frame.specs.Delays.{fault_free, extra, most_extra, delay}
use Rattle.frame.proofs.Bounds.{sum-total}
use Rattle.frame.proofs.Patterns.{patterns_bound, patterns_reach}
use Rattle.delays.proofs.Rows.{leaves_same, rows_bound, Leaves, rows_reached}
use Rattle.delays.proofs.Places.{place_of, job_at_place, free_at, recovery_at, delay_row, places}
use Rattle.delays.proofs.Extra.{faults_at, extra_at_finish}

-- ---- sums

-- the parts from p on add nothing
total_rest : (g : ℕ → ℕ) (p d : ℕ) → ((q : ℕ) → p ≤ q → g q ≡ 0) → total (p + d) g ≡ total p g
unfolding total
total_rest g p zero h = rw add-zero
total_rest g p (suc d) h = rw (add-suc p d) (omega (arith, total_rest g p d h, h (p + d) (omega arith)))

-- ---- the delay of a job

module _ (table : List ℕ) (k job : ℕ) (good : Good table) (is_job : job < jobs table) where
  -- the finishes up to and with the job's own
  abbrev up_to : ℕ
  up_to = suc (place_of table job)

  within : up_to ≤ jobs table
  within = (places table).number_below job is_job

  -- a sum over the jobs may be taken by finishing place
  by_place : (g : ℕ → ℕ) → total (jobs table) (λ q. g (job_at_place table q)) ≡ total (jobs table) g
  by_place g =
      total_rearranged (jobs table) (job_at_place table) (place_of table) g
      (places table).at_below
      (places table).number_below
      (places table).number_at
      (places table).at_number

  sum_by_place : (pattern : List ℕ) → length pattern ≡ jobs table → sum pattern ≡ total (jobs table) (faults_at table pattern)
  sum_by_place pattern long =
      sum-total pattern ∙ ap (λ n. total n (λ i. get_or pattern i 0)) long ∙ sym (by_place (λ i. get_or pattern i 0))

  -- No pattern of at most k faults leaves more.
  delay_at_most : delay table k job ≤ delay_row table up_to k
  unfolding delay most_extra
  delay_at_most =
      let r = patterns_reach (jobs table) k (λ pattern. extra table pattern (fault_free table job)) in
      let few : total up_to (faults_at table r.pattern) ≤ k =
      omega (arith, total_more (faults_at table r.pattern) up_to (jobs table) within, sum_by_place r.pattern r.at_most.long, r.at_most.few) in
      omega (
        arith,
        r.reaches,
        extra_at_finish table r.pattern good job is_job,
        rows_bound (free_at table) (recovery_at table) (faults_at table r.pattern) up_to k few,
      )

  -- the faults that leave the row's entry, by finishing place and as a list by job number
  worst : Leaves (free_at table) (recovery_at table) up_to k (delay_row table up_to k)
  worst = rows_reached (free_at table) (recovery_at table) up_to k

  abbrev pattern : List ℕ
  pattern = listed (jobs table) (λ i. worst.faults (place_of table i))

  long : length pattern ≡ jobs table
  long = length-listed (jobs table) (λ i. worst.faults (place_of table i))

  worst_by_place : (q : ℕ) → q < jobs table → faults_at table pattern q ≡ worst.faults q
  worst_by_place q l =
      get_or-listed (jobs table) (λ i. worst.faults (place_of table i)) 0 (job_at_place table q) ((places table).at_below q l)
      ∙ ap worst.faults ((places table).number_at q l)

  few : AtMost (jobs table) k pattern
  few =
      record {
        long = long;
        few =
            omega (
              arith,
              sum_by_place pattern long,
              total_same (jobs table) (faults_at table pattern) worst.faults worst_by_place,
              ap (λ n. total n worst.faults) (sym (add-sub_of_le within)),
              total_rest worst.faults up_to (jobs table - up_to) worst.none_later,
              worst.few,
            );
      }

  -- One such pattern leaves as much.
  delay-at_least : delay_row table up_to k ≤ delay table k job
  unfolding delay most_extra
  delay-at_least =
      omega (
        arith,
        patterns_bound (jobs table) k (λ pattern. extra table pattern (fault_free table job)) pattern few,
        extra_at_finish table pattern good job is_job,
        leaves_same (free_at table) (recovery_at table) (faults_at table pattern) worst.faults up_to (λ q l. worst_by_place q (omega (arith, within))),
        worst.leave,
      )

  -- Formula (6): the delay of a job is the entry for k in the row of its finishing place.
  pub delay_is_formula : delay table k job ≡ delay_row table (suc (place_of table job)) k
  delay_is_formula = le_antisymm delay_at_most delay-at_least
