-- The walk over the jobs in the order of ready times: its rows, where it stops, and the faults that its entries stand for.
use Prim.Native.Nat.{ℕ, zero, suc, ◌-◌}
use mathlib.Core.Bool.{Bool, cond, ◌&&◌}
use mathlib.Core.List.{List}
use lib.Dec.{leb, ltb, eqb}
use Rattle.jobs.specs.Below.{least}
use Rattle.jobs.specs.Table.{jobs, ready, run, recovery}
use Rattle.jobs.specs.Urgency.{earlier, position, job_at}
use Rattle.frame.proofs.Finish.{urgent_at}
use Rattle.latest.proofs.Steps.{enters, spread, picks}

-- The jobs of a walk by their turn: ready time, run, recovery, whether at least as urgent as the judged job; and that job's turn.
pub record Walk : Type 0 where
  pub ready : ℕ → ℕ
  pub run : ℕ → ℕ
  pub recovery : ℕ → ℕ
  pub on : ℕ → Bool
  pub own : ℕ

-- The ends with which the job at turn p is entered, from those before it.
abbrev pub entered : Walk → ℕ → (ℕ → ℕ) → ℕ → ℕ
entered walk p before w = enters (ltb walk.own p) (walk.ready p) (walk.run p) (before w)

-- The row after the first p turns.
unfoldable pub row : Walk → ℕ → ℕ → ℕ
row walk zero w = 0
row walk (suc p) w =
    let before = row walk p in
    cond (walk.on p) (spread (walk.recovery p) (entered walk p before) w) (before w)

-- Whether the walk stops at turn p: past the judged job, all work so far ends before the next job comes.
unfoldable pub stops : Walk → ℕ → ℕ → Bool
stops walk k p = ltb walk.own p && walk.on p && leb (row walk p k) (walk.ready p)

-- Where the walk over n turns stops.
unfoldable pub stop : Walk → ℕ → ℕ → ℕ
stop walk k n = least n (stops walk k)

-- The faults on the job at turn p, of at most w on the first p + 1 turns.
unfoldable pub faults_at : Walk → ℕ → ℕ → ℕ
faults_at walk p w = cond (walk.on p) (picks (walk.recovery p) (entered walk p (row walk p)) w) 0

-- The faults on the job at turn q, of at most w on the first p turns.
unfoldable pub unwind : Walk → ℕ → ℕ → ℕ → ℕ
unwind walk zero w q = 0
unwind walk (suc p) w q = cond (eqb q p) (faults_at walk p w) (unwind walk p (w - faults_at walk p w) q)

-- The pattern that the walk over n turns hands out, by turn.
abbrev pub best : Walk → ℕ → ℕ → ℕ → ℕ
best walk k n = unwind walk (stop walk k n) k

-- The job at a turn.
abbrev pub job_at_turn : List ℕ → ℕ → ℕ
job_at_turn table = job_at (earlier table) (jobs table)

-- The walk over a table's jobs for the judged job.
abbrev pub walk_of : List ℕ → ℕ → Walk
walk_of table job =
    record {
      ready = λ q. ready table (job_at_turn table q);
      run = λ q. run table (job_at_turn table q);
      recovery = λ q. recovery table (job_at_turn table q);
      on = urgent_at table job;
      own = position (earlier table) (jobs table) job;
    }
