-- The latest finish of a job is where its walk ends, and the pattern that the walk unwinds reaches it.
--
-- By the finish law a job's finish under a pattern is where the queue of the jobs at least as urgent halts, and the walk's rows bound all
-- of these (J1) and reach one (J2). Assumes nothing.
use Prim.Native.Nat.{ℕ, ◌≤◌, ◌<◌}
use native.Mathlib.Nat.{le_antisymm}
use native.Mathlib.Omega.{arith}
use mathlib.Core.Path.{◌≡◌, sym, ap, ◌∙◌}
use mathlib.Core.Bool.{true}
use mathlib.Core.List.{List}
use lib.ListN.{length, get_or}
use Rattle.jobs.specs.Below.{total, least, listed}
use Rattle.jobs.specs.Table.{jobs, run}
use Rattle.jobs.proofs.Below.{total_same, length-listed, get_or-listed, least-le, least_same}
use Rattle.jobs.proofs.Refusals.{Good}
use Rattle.frame.specs.Schedule.{need, finish}
use Rattle.frame.specs.Latest.{AtMost, latest}
use Rattle.frame.proofs.Queue.{halts}
use Rattle.frame.proofs.Work.{arrival, turn, arrivals, in_order_of_ready}
use Rattle.frame.proofs.Finish.{at_least_itself, urgent_at, runs_empty, finish_law}
use Rattle.frame.proofs.Bounds.{sum-total}
use Rattle.frame.proofs.Patterns.{latest_bounds, latest_reached}
use Rattle.latest.proofs.Walk.{Walk, row, stop, best, walk_of}
use Rattle.latest.proofs.Rows.{ends_with, halts_with, ends_same, best_few, walk_bounds, walk_reached}

-- ---- the walk of a job

module _ (table : List ℕ) (k job : ℕ) (good : Good table) (is_job : job < jobs table) where
  abbrev walk : Walk
  walk = walk_of table job

  own_turn : arrival table (turn table job) ≡ job
  own_turn = (arrivals table).at_number job is_job

  own_on : urgent_at table job (turn table job) ≡ true
  own_on = rw own_turn (at_least_itself table job)

  own_below : turn table job < jobs table
  own_below = (arrivals table).number_below job is_job

  runs-some : (q : ℕ) → q < jobs table → 0 < run table (arrival table q)
  runs-some q l = good.run-at_least (arrival table q) ((arrivals table).at_below q l)

  -- the faults of a pattern by turn
  abbrev in_turn : List ℕ → ℕ → ℕ
  in_turn pattern q = get_or pattern (arrival table q) 0

  finish_walks : (pattern : List ℕ) → finish table pattern job ≡ ends_with walk (in_turn pattern) (least (jobs table) (halts_with walk (in_turn pattern)))
  unfolding runs_empty need
  finish_walks pattern = finish_law table pattern job is_job (omega (arith, good.run-at_least job is_job))

  few_in_turn : (pattern : List ℕ) → AtMost (jobs table) k pattern → total (jobs table) (in_turn pattern) ≤ k
  few_in_turn pattern a =
      omega (
        arith,
        in_order_of_ready table (λ i. get_or pattern i 0),
        sum-total pattern,
        ap (λ n. total n (λ i. get_or pattern i 0)) a.long,
        a.few,
      )

  -- No pattern is later.
  latest_at_most : latest table k job ≤ row walk (stop walk k (jobs table)) k
  latest_at_most =
      let r = latest_reached table k job in
      omega (
        arith,
        sym r.reaches,
        finish_walks r.pattern,
        walk_bounds walk k (jobs table) (in_turn r.pattern) (few_in_turn r.pattern r.at_most) (λ q l o. runs-some q l),
      )

  -- the pattern that the walk hands out, by turn
  abbrev unwound : ℕ → ℕ
  unwound = best walk k (jobs table)

  -- a list that gives each job the faults of its turn
  module _ (pattern : List ℕ) (long : length pattern ≡ jobs table) (same : (i : ℕ) → i < jobs table → get_or pattern i 0 ≡ unwound (turn table i)) where
    same_in_turn : (q : ℕ) → q < jobs table → in_turn pattern q ≡ unwound q
    same_in_turn q l = same (arrival table q) ((arrivals table).at_below q l) ∙ ap unwound ((arrivals table).number_at q l)

    handed_few : AtMost (jobs table) k pattern
    handed_few =
        record {
          long = long;
          few =
              omega (
                arith,
                sum-total pattern,
                ap (λ n. total n (λ i. get_or pattern i 0)) long,
                in_order_of_ready table (λ i. get_or pattern i 0),
                total_same (jobs table) (in_turn pattern) unwound same_in_turn,
                best_few walk k (jobs table),
              );
        }

    same_halts : (q : ℕ) → q < jobs table → halts_with walk (in_turn pattern) q ≡ halts_with walk unwound q
    unfolding halts
    same_halts q l =
        rw (ends_same walk (in_turn pattern) unwound q (λ i m. same_in_turn i (omega arith)))

    handed_finish : finish table pattern job ≡ row walk (stop walk k (jobs table)) k
    handed_finish =
        finish_walks pattern
        ∙ ap (ends_with walk (in_turn pattern)) (least_same (jobs table) (halts_with walk (in_turn pattern)) (halts_with walk unwound) same_halts)
        ∙ ends_same walk (in_turn pattern) unwound (least (jobs table) (halts_with walk unwound)) (λ i m. same_in_turn i (omega (arith, least-le (jobs table) (halts_with walk unwound))))
        ∙ walk_reached walk k (jobs table) own_on own_below (runs-some (turn table job) own_below)

  -- the handed pattern as a list
  handed : List ℕ
  handed = listed (jobs table) (λ i. unwound (turn table i))

  -- The latest finish of a job is where its walk ends.
  pub latest_walks : latest table k job ≡ row walk (stop walk k (jobs table)) k
  unfolding handed
  latest_walks =
      let long = length-listed (jobs table) (λ i. unwound (turn table i)) in
      let same = get_or-listed (jobs table) (λ i. unwound (turn table i)) 0 in
      le_antisymm latest_at_most
      (omega (arith, latest_bounds table k job handed (handed_few handed long same), handed_finish handed long same))

  -- A list that gives each job the faults of its turn in the walk reaches the latest finish.
  pub handed_reaches : (pattern : List ℕ) → length pattern ≡ jobs table → ((i : ℕ) → i < jobs table → get_or pattern i 0 ≡ best walk k (jobs table) (turn table i))
      → AtMost (jobs table) k pattern × (finish table pattern job ≡ latest table k job)
  handed_reaches pattern long same = (handed_few pattern long same, handed_finish pattern long same ∙ sym latest_walks)
