-- The schedule: what the one processor does in each slot. Slot t lies between t and t + 1.
use Rattle.std.specs.Prelude.{ℕ, zero, suc, ◌+◌, ◌*◌, ◌-◌, Bool, not, cond, ◌&&◌, List, get_or, replicate, leb, ltb}
use Rattle.jobs.specs.Below.{total, count, greatest, some, least}
use Rattle.jobs.specs.Table.{jobs, ready, run, recovery}
use Rattle.jobs.specs.Urgency.{urgent}

-- A pattern gives each job a count f of failures. The job then needs C + f × V slots.
unfoldable pub need : List ℕ → List ℕ → ℕ → ℕ
need table pattern job = run table job + get_or pattern job 0 * recovery table job

-- Of the jobs that have p, the most urgent.
unfoldable pub foremost : List ℕ → (ℕ → Bool) → ℕ → Bool
foremost table p job = ltb job (jobs table) && p job && not (some (jobs table) (λ other. p other && urgent table other job))

-- A job waits in slot t if R ≤ t and it has had fewer slots than it needs.
unfoldable pub waits : List ℕ → List ℕ → (ℕ → ℕ) → ℕ → ℕ → Bool
waits table pattern had t job = leb (ready table job) t && ltb (had job) (need table pattern job)

-- The most urgent waiting job runs.
unfoldable pub runs : List ℕ → List ℕ → (ℕ → ℕ) → ℕ → ℕ → Bool
runs table pattern had t = foremost table (waits table pattern had t)

-- The slots that a job has had before time t.
unfoldable pub had : List ℕ → List ℕ → ℕ → ℕ → ℕ
had table pattern zero job = 0
had table pattern (suc t) job =
    let before = had table pattern t in
    before job + cond (runs table pattern before t job) 1 0

-- If none waits, the slot is idle.
unfoldable pub idle : List ℕ → List ℕ → ℕ → Bool
idle table pattern t = not (some (jobs table) (waits table pattern (had table pattern t) t))

-- A time by which every job has finished: the last ready time and all needs.
unfoldable pub horizon : List ℕ → List ℕ → ℕ
horizon table pattern = greatest (jobs table) (ready table) + total (jobs table) (need table pattern)

-- Its finish is t + 1, where t is the slot that meets its need.
unfoldable pub finish : List ℕ → List ℕ → ℕ → ℕ
finish table pattern job =
    suc (least (horizon table pattern) (λ t. leb (need table pattern job) (had table pattern (suc t) job)))

-- The pattern without faults.
unfoldable pub no_faults : List ℕ → List ℕ
no_faults table = replicate (jobs table) 0

-- Free slots between a and b, in the schedule without faults: the idle slots t with a ≤ t < b; zero if a ≥ b.
unfoldable pub free_slots : List ℕ → ℕ → ℕ → ℕ
free_slots table a b = count (b - a) (λ t. idle table (no_faults table) (a + t))
