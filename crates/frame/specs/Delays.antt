-- The paper's delays: the extra work that a pattern leaves in the schedule without faults.
use Rattle.std.specs.Prelude.{ℕ, zero, suc, ◌+◌, ◌*◌, ◌-◌, cond, List, get_or, eqb}
use Rattle.jobs.specs.Below.{total}
use Rattle.jobs.specs.Table.{jobs, recovery}
use Rattle.frame.specs.Schedule.{idle, finish, no_faults}
use Rattle.frame.specs.Latest.{over_patterns}

-- The fault-free finish e of a job.
unfoldable pub fault_free : List ℕ → ℕ → ℕ
fault_free table = finish table (no_faults table)

-- A pattern's extra work just after time t: it starts at zero, falls by one, not below zero, with each idle slot of the
-- schedule without faults, and grows by f × V at each job's fault-free finish.
unfoldable pub extra : List ℕ → List ℕ → ℕ → ℕ
extra table pattern zero = 0
extra table pattern (suc t) =
    extra table pattern t - cond (idle table (no_faults table) t) 1 0
    + total (jobs table) (λ job. cond (eqb (fault_free table job) (suc t)) (get_or pattern job 0 * recovery table job) 0)

-- The most extra work just after time t over patterns of at most w faults.
unfoldable pub most_extra : List ℕ → ℕ → ℕ → ℕ
most_extra table w t = over_patterns (jobs table) w (λ pattern. extra table pattern t)

-- A job's delay: the most extra work just after its fault-free finish.
unfoldable pub delay : List ℕ → ℕ → ℕ → ℕ
delay table w job = most_extra table w (fault_free table job)
