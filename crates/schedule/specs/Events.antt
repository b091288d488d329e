-- What the functions inside the ask schedule promise each other. Nothing here is 01's: the ask itself is promised by `Scheduled` alone.
-- The walk goes from event to event (a job ends or becomes ready) and keeps what is left to each job of its need.
use Rattle.std.specs.Prelude.{ℕ, ◌+◌, ◌-◌, ◌≤◌, ◌<◌, min, ◌≡◌, Bool, cond, ◌&&◌, List, length, get_or, set, leb, ltb, Option, Some, None}
use Rattle.jobs.specs.declared.Job.{Job}

-- No job becomes ready at this time or later.
abbrev pub never : ℕ
never = 10000000

-- A ready time, if it comes after t; else never.
abbrev pub to_come : ℕ → ℕ → ℕ
to_come ready t = cond (ltb t ready) ready never

-- None of these ready times comes after t and before u.
pub record NoneBetween (times : List ℕ) (t u : ℕ) : Type 0 where
  pub later : (i : ℕ) → i < length times → t < get_or times i 0 → u ≤ get_or times i 0

-- The first of these ready times after t.
pub record FirstAfter (times : List ℕ) (t next : ℕ) : Type 0 where
  pub after : t < next
  pub soon : next < never
  pub comes : (i : ℕ) × (i < length times) × (get_or times i 0 ≡ next)
  pub none_between : NoneBetween times t next

-- The first of these ready times after t, if one comes.
abbrev pub ComesNext : List ℕ → ℕ → Option ℕ → Type 0
ComesNext times t None = NoneBetween times t never
ComesNext times t (Some next) = FirstAfter times t next

-- Whether a job waits at time t, by the jobs' ready times and what is left to each job.
abbrev pub waiting : List ℕ → List ℕ → ℕ → Job → Bool
waiting times left t job = leb (get_or times job.0 0) t && ltb 0 (get_or left job.0 0)

-- A job's end fits in a word, and both lists have a place for the job.
pub record Fits (job time : ℕ) (left finishes : List ℕ) : Type 0 where
  pub owed : job < length left
  pub room : job < length finishes
  pub ends : time + get_or left job 0 ≤ 8200000

-- What comes first: an end, or the next ready time.
abbrev pub sooner : ℕ → Option ℕ → ℕ
sooner end None = end
sooner end (Some next) = min next end

-- A job ran to its end or up to the next ready time, whichever came first; at its end its finish is noted.
pub record Ran (job time : ℕ) (next : Option ℕ) (left finishes left' finishes' : List ℕ) (time' : ℕ) : Type 0 where
  pub time_is : time' ≡ sooner (time + get_or left job 0) next
  pub left_is : left' ≡ set left job (time + get_or left job 0 - time')
  pub finishes_is : finishes' ≡ cond (ltb time' (time + get_or left job 0)) finishes (set finishes job (time + get_or left job 0))
