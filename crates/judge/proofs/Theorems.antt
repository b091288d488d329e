-- What the judge's answers mean, as the inspector reads them.
--
-- Demand 2: the verdict is sound if and only if every job ends by its deadline under every pattern of at most k faults. Demand 3: the latest
-- finish is the greatest over those patterns, and never more than the job's ready time, the runs of all jobs at least as urgent, and k times
-- the longest recovery among those. Assumes nothing.
use Prim.Native.Nat.{ℕ, zero, suc, ◌+◌, ◌*◌, ◌≤◌, ◌<◌, zero-le}
use native.Mathlib.Nat.{le_trans, mul-le-mul_left, mul-le-mul_right, add-mul}
use native.Mathlib.Omega.{arith}
use mathlib.Core.Path.{◌≡◌, sym, ap, ◌∙◌}
use mathlib.Core.Logic.{◌↔◌}
use mathlib.Core.Bool.{cond}
use mathlib.Core.List.{List}
use lib.ListN.{length, get_or}
use borrow.Author.Tests.{ltb-true}
use Rattle.jobs.specs.Below.{total, greatest}
use Rattle.jobs.specs.Table.{jobs, ready, run, deadline, recovery}
use Rattle.jobs.specs.declared.Job.{Job}
use Rattle.jobs.proofs.Below.{by_cases, total-le, total-add, greatest_bounds}
use Rattle.jobs.proofs.Refusals.{Good}
use Rattle.frame.specs.Schedule.{need, finish}
use Rattle.frame.specs.Latest.{sum, AtMost, latest, verdict}
use Rattle.frame.specs.declared.Verdict.TheVariants.{Sound, Miss}
use Rattle.frame.proofs.Finish.{at_least, workload, finish_bound}
use Rattle.frame.proofs.Shorter.{Shorter, shorter_no_later}
use Rattle.frame.proofs.Bounds.{sum-total}
use Rattle.frame.proofs.Patterns.{Reaches, latest_bounds, latest_reached}
use Rattle.frame.proofs.Verdicts.{misses_is, miss_names, sound_meets, meets_sound}
use Rattle.judge.specs.Asks.{Handed}

-- ---- demand 2

-- every job ends by its deadline under every pattern of at most k faults
abbrev pub AllMeet : List ℕ → ℕ → Type 0
AllMeet table k =
    (job : ℕ) → job < jobs table → (pattern : List ℕ) → AtMost (jobs table) k pattern → finish table pattern job ≤ deadline table job

pub sound_exactly : (table : List ℕ) (k : ℕ) → (verdict table k ≡ Sound) ↔ AllMeet table k
sound_exactly table k = (
  (λ e job l pattern a. le_trans (latest_bounds table k job pattern a) (sound_meets table k e job l)),
  (λ all.
      meets_sound table k
      (λ job l. let r = latest_reached table k job in omega (arith, r.reaches, all job l r.pattern r.at_most))),
)

-- In a sound table every job ends by its deadline also where runs and recoveries are shorter than the longest.
pub sound_shorter : (table pattern table' pattern' : List ℕ) (k job : ℕ) → verdict table k ≡ Sound → AtMost (jobs table) k pattern → Shorter table pattern table' pattern'
    → job < jobs table → 0 < need table' pattern' job → finish table' pattern' job ≤ deadline table job
sound_shorter table pattern table' pattern' k job e a s l needs =
    le_trans (shorter_no_later table pattern table' pattern' s job l needs) ((sound_exactly table k).0 e job l pattern a)

-- On a miss the pattern that was handed out makes the named job finish after its deadline.
pub miss_shown : (table : List ℕ) (k : ℕ) (job : Job) (time : ℕ) (before after : List ℕ) → verdict table k ≡ Miss job time → (h : Handed table k job.0 before after)
    → deadline table job.0 < finish table h.pattern job.0
miss_shown table k job time before after e h =
    let late = ltb-true _ _ (sym (misses_is table k job.0) ∙ (miss_names table k job.0 time e).most.has) in
    rw h.reaches late

-- ---- demand 3

-- The latest finish is the greatest finish over all patterns of at most k faults: none is later, and one is as late.
pub latest_exactly : (table : List ℕ) (k job : ℕ)
    → ((pattern : List ℕ) → AtMost (jobs table) k pattern → finish table pattern job ≤ latest table k job)
    × Reaches (jobs table) k (λ pattern. finish table pattern job) (latest table k job)
latest_exactly table k job = (latest_bounds table k job, latest_reached table k job)

module _ (table : List ℕ) (job : ℕ) where
  -- the runs of all jobs at least as urgent, and the longest recovery among those
  abbrev pub urgent_runs : ℕ
  urgent_runs = total (jobs table) (λ i. cond (at_least table job i) (run table i) 0)

  abbrev pub longest_recovery : ℕ
  longest_recovery = greatest (jobs table) (λ i. cond (at_least table job i) (recovery table i) 0)

  total-times : (n m : ℕ) (g : ℕ → ℕ) → total n (λ i. g i * m) ≡ total n g * m
  unfolding total
  total-times zero m g = omega arith
  total-times (suc n) m g = omega (arith, total-times n m g, add-mul (total n g) (g n) m)

  workload_bound : (pattern : List ℕ) → length pattern ≡ jobs table → workload table pattern job ≤ urgent_runs + sum pattern * longest_recovery
  unfolding workload need
  workload_bound pattern long =
      omega (
        arith,
        total-le (jobs table) _ (λ i. cond (at_least table job i) (run table i) 0 + get_or pattern i 0 * longest_recovery) part,
        total-add (jobs table) (λ i. cond (at_least table job i) (run table i) 0) (λ i. get_or pattern i 0 * longest_recovery),
        total-times (jobs table) longest_recovery (λ i. get_or pattern i 0),
        ap (λ x. x * longest_recovery) (sum-total pattern ∙ ap (λ n. total n (λ i. get_or pattern i 0)) long),
      )
    where
      part : (i : ℕ) → i < jobs table → cond (at_least table job i) (need table pattern i) 0 ≤ cond (at_least table job i) (run table i) 0 + get_or pattern i 0 * longest_recovery
      part i l =
          let most = greatest_bounds (jobs table) (λ j. cond (at_least table job j) (recovery table j) 0) i l in
          by_cases (at_least table job i)
          (λ e. rw e (omega (arith, mul-le-mul_left (get_or pattern i 0) (rw e at most))))
          (λ e. rw e zero-le)

  pub latest_within : (k : ℕ) → Good table → job < jobs table → latest table k job ≤ ready table job + urgent_runs + k * longest_recovery
  unfolding need
  latest_within k good l =
      let r = latest_reached table k job in
      omega (
        arith,
        r.reaches,
        finish_bound table r.pattern job l (omega (arith, good.run-at_least job l)),
        workload_bound r.pattern r.at_most.long,
        mul-le-mul_right longest_recovery r.at_most.few,
      )
