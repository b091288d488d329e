-- The next ready time after a time, as a loop over the ready times finds it. Assumes nothing.
use Prim.Native.Nat.{ℕ, ◌+◌, ◌≤◌, ◌<◌, min}
use native.Mathlib.Numerals.{add-one}
use native.Mathlib.Omega.{arith}
use mathlib.Core.Path.{◌≡◌, ap}
use mathlib.Core.List.{List}
use lib.ListN.{length, get_or}
use lib.Dec.{ltb}
use borrow.Author.Tests.{ltb-true, ltb-false}
use Rattle.std.specs.Bool.{then_some}
use Rattle.jobs.proofs.Below.{by_cases, below_suc}
use Rattle.schedule.specs.Events.{never, to_come, ComesNext}

module _ (times : List ℕ) (t : ℕ) where
  -- Of the first n ready times, the first that comes after t; `never`, if none does.
  pub record Sought (n next : ℕ) : Type 0 where
    pub most : next ≤ never
    pub later : (i : ℕ) → i < n → t < get_or times i 0 → next ≤ get_or times i 0
    pub comes : next < never → (i : ℕ) × (i < n) × (get_or times i 0 ≡ next) × (t < next)

  pub sought_none : Sought 0 never
  sought_none = record { most = omega arith; later = λ i l h. absurd (omega arith); comes = λ h. absurd (omega arith) }

  -- one ready time more, which is to come or is past
  pub sought_more : (n next : ℕ) → Sought n next → Sought (n + 1) (min next (to_come (get_or times n 0) t))
  sought_more n next s = by_cases (ltb t (get_or times n 0)) (λ e. rw e (ahead (ltb-true t (get_or times n 0) e))) (λ e. rw e (past (ltb-false t (get_or times n 0) e)))
    where
      past : get_or times n 0 ≤ t → Sought (n + 1) (min next never)
      past h =
          record {
            most = omega arith;
            later = λ i l k. below_suc (rw add-one at l) (λ m. omega (arith, s.later i m k)) (λ m. absurd (omega (arith, ap (λ j. get_or times j 0) m)));
            comes = λ k. let c = s.comes (omega arith) in (c.0, omega (arith, c.1), omega (arith, c.2, s.most), omega (arith, c.3, s.most));
          }

      ahead : t < get_or times n 0 → Sought (n + 1) (min next (get_or times n 0))
      ahead h =
          record {
            most = omega (arith, s.most);
            later = λ i l k. below_suc (rw add-one at l) (λ m. omega (arith, s.later i m k)) (λ m. omega (arith, ap (λ j. get_or times j 0) m));
            comes =
                λ k.
                by_cases (ltb next (get_or times n 0))
                (λ e.
                let less = ltb-true next (get_or times n 0) e in
                let c = s.comes (omega arith) in
                (c.0, omega (arith, c.1), omega (arith, c.2), omega (arith, c.3)))
                (λ e. let more = ltb-false next (get_or times n 0) e in (n, omega arith, omega arith, omega arith));
          }

  -- what the loop has found when all ready times are passed
  pub sought_all : (n next : ℕ) → n ≡ length times → Sought n next → ComesNext times t (then_some (ltb next never) next)
  sought_all n next e s =
      by_cases (ltb next never)
      (λ b.
      let c = s.comes (ltb-true next never b) in
      rw b (record { after = c.3; soon = ltb-true next never b; comes = (c.0, omega (arith, c.1), c.2); none_between = record { later = λ i l h. s.later i (omega arith) h } }))
      (λ b. rw b (record { later = λ i l h. omega (arith, s.later i (omega arith) h, ltb-false next never b) }))
