-- The notes of a walk, and the counts that are unwound from them. The private functions compute by them; no promise of an ask rests on them.
use Rattle.std.specs.Prelude.{ℕ, ◌<◌, ◌≡◌, List, length, get_or, replicate}
use Rattle.jobs.specs.Arrays.{Holds}
use Rattle.jobs.specs.Table.{jobs}
use Rattle.jobs.specs.Urgency.{earlier, position}
use Rattle.frame.specs.declared.Verdict.{Verdict}
use Rattle.frame.specs.declared.Verdict.TheVariants.{Sound, Miss}
use Rattle.latest.proofs.Walk.{stop, faults_at, best, walk_of}
use Rattle.judge.specs.declared.turns.Trail.{Trail}

-- The notes of the walk for the judged job: where it stops, and the faults on each job before.
pub record TrailOf (table : List ℕ) (k job : ℕ) (trail : Trail) : Type 0 where
  pub stops_at : trail.stop ≡ stop (walk_of table job) k (jobs table)
  pub notes : (q : ℕ) (d : List ℕ) → q < trail.stop → Holds 9 (get_or trail.picks q d) 9 (faults_at (walk_of table job) q)

-- The counts of the pattern that the walk hands out, by job number.
pub record Unwound (table : List ℕ) (k job : ℕ) (counts : List ℕ) : Type 0 where
  pub long : length counts ≡ 64
  pub each : (i : ℕ) → i < jobs table → get_or counts i 0 ≡ best (walk_of table job) k (jobs table) (position (earlier table) (jobs table) i)

-- The counts for a verdict: on a miss those of the named job, on sound all zeros.
abbrev pub CountsFor : List ℕ → ℕ → Verdict → List ℕ → Type 0
CountsFor table k Sound counts = counts ≡ replicate 64 0
CountsFor table k (Miss job time) counts = Unwound table k job.0 counts
