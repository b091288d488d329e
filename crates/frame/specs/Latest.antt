-- Latest finishes over all patterns of at most k faults, margins and the verdict.
use Rattle.std.specs.Prelude.{ℕ, zero, suc, ◌+◌, ◌-◌, ◌≤◌, ◌≡◌, Bool, true, false, cond, List, [], ◌∷◌, length, ltb, ℤ, pos, negsuc}
use Rattle.std.proofs.Math.IntN.{sub_ℕ}
use Rattle.jobs.specs.Below.{greatest, least}
use Rattle.jobs.specs.Table.{jobs, deadline}
use Rattle.frame.specs.Schedule.{foremost, finish}
use Rattle.frame.specs.declared.Verdict.{Verdict}
use Rattle.frame.specs.declared.Verdict.TheVariants.{Sound, Miss}

-- The sum of a pattern's counts.
unfoldable pub sum : List ℕ → ℕ
sum [] = 0
sum (f ∷ rest) = f + sum rest

-- A pattern of n jobs with at most k faults.
pub record AtMost (n k : ℕ) (pattern : List ℕ) : Type 0 where
  pub long : length pattern ≡ n
  pub few : sum pattern ≤ k

-- The greatest g over all patterns of n jobs with at most k faults.
unfoldable pub over_patterns : ℕ → ℕ → (List ℕ → ℕ) → ℕ
over_patterns zero k g = g []
over_patterns (suc n) k g = greatest (suc k) (λ f. over_patterns n (k - f) (λ rest. g (f ∷ rest)))

-- The latest finish of a job is the greatest finish over all patterns whose counts sum to at most k.
unfoldable pub latest : List ℕ → ℕ → ℕ → ℕ
latest table k job = over_patterns (jobs table) k (λ pattern. finish table pattern job)

-- Its margin is D minus the latest finish, signed.
unfoldable pub margin : List ℕ → ℕ → ℕ → ℤ
margin table k job = sub_ℕ (deadline table job) (latest table k job)

-- Whether a margin is negative.
unfoldable pub negative : ℤ → Bool
negative (pos n) = false
negative (negsuc n) = true

-- On a miss the verdict names the most urgent job with a negative margin.
unfoldable pub named : List ℕ → ℕ → ℕ → Bool
named table k = foremost table (λ job. negative (margin table k job))

-- The verdict is sound, or miss with the job and its latest finish. It is sound exactly when no margin is negative.
unfoldable pub verdict : List ℕ → ℕ → Verdict
verdict table k =
    let job = least (jobs table) (named table k) in
    cond (ltb job (jobs table)) (Miss (record { 0 = job }) (latest table k job)) Sound
