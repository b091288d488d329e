-- 01's tables worked by hand, those marked P: a table of cases under a single statement, proved by computing. Assumes nothing.
use Prim.Native.Nat.{ℕ, ◌+◌}
use mathlib.Core.Path.{◌≡◌, refl}
use mathlib.Core.List.{List, [], ◌∷◌}
use lib.Dec.{lit≤, eqb}
use lib.IntN.{ℤ, pos, negsuc}
use Rattle.jobs.specs.Below.{total, count, greatest, some, least, listed}
use Rattle.jobs.specs.Table.{jobs, deadline}
use Rattle.jobs.specs.Urgency.{by_key, urgent}
use Rattle.frame.specs.Schedule.{need, foremost, waits, runs, had, idle, horizon, finish, no_faults, free_slots}
use Rattle.frame.specs.Latest.{AtMost, sum, over_patterns, latest, margin, negative, named, verdict}
use Rattle.frame.specs.Delays.{fault_free, extra, most_extra, delay}
use Rattle.frame.specs.declared.Verdict.{Verdict}
use Rattle.frame.specs.declared.Verdict.TheVariants.{Sound, Miss}

-- What 01 says of a table.
pub data Claim : Type 0 where
  -- the finishes under a pattern
  finishes : List ℕ → List ℕ → Claim
  -- the latest finishes for k faults
  latests : ℕ → List ℕ → Claim
  -- the margins for k faults
  margins : ℕ → List ℤ → Claim
  -- the verdict for k faults, and for any k
  judged : ℕ → Verdict → Claim
  judged_any : Verdict → Claim
  -- a pattern of at most k faults that reaches a job's latest finish
  reached : ℕ → ℕ → List ℕ → Claim
  -- the paper's maximum over patterns of k faults is first zero, from a job's fault-free finish on, at this time
  first_zero : ℕ → ℕ → ℕ → Claim
  -- the whole list, tested for k faults at its last deadline alone, would pass
  passes_whole : ℕ → Claim

abbrev pub Holds : List ℕ → Claim → Type 0
Holds table (finishes pattern times) = listed (jobs table) (finish table pattern) ≡ times
Holds table (latests k times) = listed (jobs table) (latest table k) ≡ times
Holds table (margins k ms) = listed (jobs table) (margin table k) ≡ ms
Holds table (judged k v) = verdict table k ≡ v
Holds table (judged_any v) = (k : ℕ) → verdict table k ≡ v
Holds table (reached k job pattern) = AtMost (jobs table) k pattern × (finish table pattern job ≡ latest table k job)
Holds table (first_zero k job time) =
    fault_free table job + least time (λ t. eqb (most_extra table k (fault_free table job + t)) 0) ≡ time
Holds table (passes_whole k) = most_extra table k (greatest (jobs table) (deadline table)) ≡ 0

pub record Case : Type 0 where
  pub table : List ℕ
  pub says : List Claim

abbrev pub HoldAll : List ℕ → List Claim → Type 0
HoldAll table [] = Unit {0}
HoldAll table (c ∷ cs) = Holds table c × HoldAll table cs

abbrev pub AllHold : List Case → Type 0
AllHold [] = Unit {0}
AllHold (c ∷ cs) = HoldAll c.table c.says × AllHold cs

-- Cases 1 to 10; 4, 5 and 6 are of one table.
abbrev pub cases : List Case
cases =
    record { table = []; says = judged_any Sound ∷ [] }
    ∷ record {
      table = 0 ∷ 2 ∷ 4 ∷ 1 ∷ [];
      says = latests 2 (4 ∷ []) ∷ margins 2 (pos 0 ∷ []) ∷ judged 2 Sound ∷ [];
    }
    ∷ record {
      table = 0 ∷ 2 ∷ 3 ∷ 1 ∷ [];
      says = judged 2 (Miss (record { 0 = 0 }) 4) ∷ margins 2 (negsuc 0 ∷ []) ∷ reached 2 0 (2 ∷ []) ∷ [];
    }
    ∷ record {
      table = 0 ∷ 3 ∷ 20 ∷ 2 ∷ 4 ∷ 1 ∷ 15 ∷ 5 ∷ [];
      says =
          finishes (1 ∷ 1 ∷ []) (11 ∷ 10 ∷ [])
          ∷ latests 2 (11 ∷ 15 ∷ [])
          ∷ margins 2 (pos 9 ∷ pos 0 ∷ [])
          ∷ judged 2 Sound
          ∷ first_zero 2 0 15
          ∷ latests 1 (6 ∷ 10 ∷ [])
          ∷ [];
    }
    ∷ record {
      table = 0 ∷ 3 ∷ 20 ∷ 2 ∷ 4 ∷ 1 ∷ 14 ∷ 5 ∷ [];
      says = judged 2 (Miss (record { 0 = 1 }) 15) ∷ passes_whole 2 ∷ [];
    }
    ∷ record {
      table = 5 ∷ 1 ∷ 3 ∷ 0 ∷ [];
      says = latests 0 (6 ∷ []) ∷ margins 0 (negsuc 2 ∷ []) ∷ judged 0 (Miss (record { 0 = 0 }) 6) ∷ reached 0 0 (0 ∷ []) ∷ [];
    }
    ∷ record {
      table = 0 ∷ 2 ∷ 4 ∷ 1 ∷ 0 ∷ 2 ∷ 4 ∷ 1 ∷ [];
      says =
          latests 1 (3 ∷ 5 ∷ [])
          ∷ judged 1 (Miss (record { 0 = 1 }) 5)
          ∷ reached 1 1 (1 ∷ 0 ∷ [])
          ∷ reached 1 1 (0 ∷ 1 ∷ [])
          ∷ [];
    }
    ∷ record {
      table = 1 ∷ 2 ∷ 9 ∷ 0 ∷ 0 ∷ 3 ∷ 9 ∷ 0 ∷ [];
      says = finishes (0 ∷ 0 ∷ []) (3 ∷ 5 ∷ []) ∷ latests 0 (3 ∷ 5 ∷ []) ∷ [];
    }
    ∷ []

-- what computes in the cases
worked : ℕ
unfolding total count greatest some least listed by_key urgent need foremost waits runs had idle horizon finish no_faults free_slots sum over_patterns latest margin negative named verdict fault_free extra most_extra delay
worked = 0

pub cases_hold : AllHold cases
unfolding worked
cases_hold = (
  ((λ k. refl), tt),
  (
    (refl, (refl, (refl, tt))),
    (
      (refl, (refl, ((record { long = refl; few = lit≤ tt }, refl), tt))),
      (
        (refl, (refl, (refl, (refl, (refl, (refl, tt)))))),
        (
          (refl, (refl, tt)),
          (
            (refl, (refl, (refl, ((record { long = refl; few = lit≤ tt }, refl), tt)))),
            (
              (refl, (refl, ((record { long = refl; few = lit≤ tt }, refl), ((record { long = refl; few = lit≤ tt }, refl), tt)))),
              ((refl, (refl, tt)), tt),
            ),
          ),
        ),
      ),
    ),
  ),
)

-- Of two jobs that miss, the more urgent is named.
pub two_miss : verdict (0 ∷ 3 ∷ 2 ∷ 0 ∷ 0 ∷ 3 ∷ 1 ∷ 0 ∷ []) 0 ≡ Miss (record { 0 = 1 }) 3
unfolding worked
two_miss = refl

-- Case 13: free slots.
pub case_13 : free_slots (0 ∷ 3 ∷ 20 ∷ 2 ∷ 4 ∷ 1 ∷ 15 ∷ 5 ∷ []) 3 5 ≡ 1
unfolding worked
case_13 = refl
