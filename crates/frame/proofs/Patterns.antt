-- `over_patterns` is the greatest over exactly the patterns of n jobs with at most k faults: it bounds each of them, and one reaches it.
-- Assumes nothing.
use Prim.Native.Nat.{ℕ, zero, suc, ◌-◌, ◌≤◌}
use native.Mathlib.Nat.{le_trans}
use native.Mathlib.Omega.{arith}
use mathlib.Core.Path.{◌≡◌, refl, sym, ◌∙◌}
use mathlib.Core.List.{List, [], ◌∷◌}
use Rattle.jobs.specs.Table.{jobs}
use Rattle.jobs.proofs.Below.{greatest_bounds, greatest_reached}
use Rattle.frame.specs.Schedule.{finish}
use Rattle.frame.specs.Latest.{sum, AtMost, over_patterns, latest}

pub patterns_bound : (n k : ℕ) (g : List ℕ → ℕ) (pattern : List ℕ) → AtMost n k pattern → g pattern ≤ over_patterns n k g
unfolding over_patterns sum
patterns_bound zero k g [] a = omega arith
patterns_bound zero k g (f ∷ rest) a = absurd (omega (arith, a.long))
patterns_bound (suc n) k g [] a = absurd (omega (arith, a.long))
patterns_bound (suc n) k g (f ∷ rest) a =
    le_trans
    (patterns_bound n (k - f) (λ r. g (f ∷ r)) rest (record { long = omega (arith, a.long); few = omega (arith, a.few) }))
    (greatest_bounds (suc k) (λ i. over_patterns n (k - i) (λ r. g (i ∷ r))) f (omega (arith, a.few)))

-- a pattern of n jobs with at most k faults at which g is x
pub record Reaches (n k : ℕ) (g : List ℕ → ℕ) (x : ℕ) : Type 0 where
  pub pattern : List ℕ
  pub at_most : AtMost n k pattern
  pub reaches : g pattern ≡ x

pub patterns_reach : (n k : ℕ) (g : List ℕ → ℕ) → Reaches n k g (over_patterns n k g)
unfolding over_patterns sum
patterns_reach zero k g = record { pattern = []; at_most = record { long = refl; few = omega arith }; reaches = refl }
patterns_reach (suc n) k g =
    let f = greatest_reached k (λ i. over_patterns n (k - i) (λ r. g (i ∷ r))) in
    let r = patterns_reach n (k - f.0) (λ r. g (f.0 ∷ r)) in
    record {
      pattern = f.0 ∷ r.pattern;
      at_most = record { long = omega (arith, r.at_most.long); few = omega (arith, f.1, r.at_most.few) };
      reaches = r.reaches ∙ sym f.2;
    }

module _ (table : List ℕ) (k job : ℕ) where
  -- No pattern of at most k faults makes the job finish later than its latest finish.
  pub latest_bounds : (pattern : List ℕ) → AtMost (jobs table) k pattern → finish table pattern job ≤ latest table k job
  unfolding latest
  latest_bounds = patterns_bound (jobs table) k (λ pattern. finish table pattern job)

  -- One such pattern makes it finish then.
  pub latest_reached : Reaches (jobs table) k (λ pattern. finish table pattern job) (latest table k job)
  unfolding latest
  latest_reached = patterns_reach (jobs table) k (λ pattern. finish table pattern job)
