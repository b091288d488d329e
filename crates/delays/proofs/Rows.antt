-- The rows of formula (6) bound the extra work of every pattern and are reached by one.
--
-- A job's faults come one after the other: f of them raise the entry for w − f, less the free slots, by f recoveries. So an entry bounds what any
-- spread of at most w faults leaves (rows_bound), and following where each entry came from gives a spread that leaves just that (rows_reached).
--
-- In order: one step; the rows; the extra work of a spread of faults; the bound; the spread that reaches it; the rows fit. Assumes nothing.
use Prim.Native.Nat.{ℕ, zero, suc, ◌+◌, ◌-◌, ◌*◌, ◌≤◌, ◌<◌, zero-le, max}
use native.Mathlib.Nat.{add-zero, add-suc, suc-mul, add-sub_of_le}
use native.Mathlib.Omega.{arith}
use mathlib.Core.Path.{◌≡◌, refl, sym, ap, ◌∙◌}
use mathlib.Core.Bool.{cond}
use lib.ListN.{get_or, replicate}
use lib.Dec.{leb, eqb}
use borrow.Author.Tests.{leb-true, leb-false, eq-eqb, ne_eqb}
use Rattle.jobs.specs.Below.{total}
use Rattle.jobs.specs.Arrays.{Holds}
use Rattle.jobs.proofs.Below.{by_cases, total_same}
use Rattle.delays.specs.Rows.{next_row, rows}

-- ---- one step

module _ (free v : ℕ) (last : ℕ → ℕ) where
  -- the cell for no faults
  pub next_start : Holds 9 (replicate 9 0) 1 (next_row free v last)
  unfolding next_row
  next_start = record { long = refl; each = λ i l. only i l }
    where
      only : (i : ℕ) → i < 1 → get_or (replicate 9 0) i 0 ≡ next_row free v last i
      only zero l = refl
      only (suc i) l = absurd (omega arith)

  -- the cell at w from the one before it
  pub next_at : (w : ℕ) → 0 < w → next_row free v last w ≡ max (last w - free) (next_row free v last (w - 1) + v)
  unfolding next_row
  next_at zero l = absurd (omega arith)
  next_at (suc w) l = ap (λ u. max (last (suc w) - free) (next_row free v last u + v)) (one_less w)
    where
      one_less : (u : ℕ) → u ≡ suc u - 1
      one_less u = omega arith

  -- more faults leave no less
  next_grows : (w : ℕ) → next_row free v last w ≤ next_row free v last (suc w)
  unfolding next_row
  next_grows w = omega arith

  module _ (none : last 0 ≡ 0) where
    next-first : (w : ℕ) → last w - free ≤ next_row free v last w
    unfolding next_row
    next-first zero = omega arith
    next-first (suc w) = omega arith

    -- f more faults at this finish cost f recoveries
    next_bounds : (w f : ℕ) → last w - free + f * v ≤ next_row free v last (w + f)
    unfolding next_row
    next_bounds w zero = rw (add-zero w) (omega (arith, next-first w))
    next_bounds w (suc f) = rw (add-suc w f) (omega (arith, suc-mul f v, next_bounds w f))

    -- an entry comes from one of the last row, with the faults f on this job and u before it
    record Comes (w : ℕ) : Type 0 where
      pub f : ℕ
      pub u : ℕ
      pub shares : u + f ≡ w
      pub cost : next_row free v last w ≡ last u - free + f * v

    next-comes : (w : ℕ) → Comes w
    unfolding next_row
    next-comes zero = record { f = 0; u = 0; shares = refl; cost = omega arith }
    next-comes (suc w) =
        by_cases (leb (next_row free v last w + v) (last (suc w) - free))
        (λ e. record { f = 0; u = suc w; shares = omega arith; cost = omega (arith, leb-true (next_row free v last w + v) (last (suc w) - free) e) })
        (λ e.
        let c = next-comes w in
        record {
          f = suc c.f;
          u = c.u;
          shares = omega (arith, c.shares);
          cost = omega (arith, leb-false (next_row free v last w + v) (last (suc w) - free) e, c.cost, suc-mul c.f v);
        })

-- each fault costs at most m
next_fits : (free v : ℕ) (last : ℕ → ℕ) (m : ℕ) → ((u : ℕ) → last u ≤ u * m) → v ≤ m → (w : ℕ) → next_row free v last w ≤ w * m
unfolding next_row
next_fits free v last m h l zero = omega arith
next_fits free v last m h l (suc w) = omega (arith, h (suc w), suc-mul w m, next_fits free v last m h l w)

-- a step reads only the entries up to w
pub next_same : (free v : ℕ) (f g : ℕ → ℕ) (w : ℕ) → ((u : ℕ) → u ≤ w → f u ≡ g u) → next_row free v f w ≡ next_row free v g w
unfolding next_row
next_same free v f g zero h = refl
next_same free v f g (suc w) h = omega (arith, h (suc w) (omega arith), next_same free v f g w (λ u l. h u (omega arith)))

-- ---- the rows

module _ (free recovery : ℕ → ℕ) where
  -- no faults leave nothing
  rows_none : (p : ℕ) → rows free recovery p 0 ≡ 0
  unfolding rows next_row
  rows_none zero = refl
  rows_none (suc p) = refl

  rows_grow : (p w : ℕ) → rows free recovery p w ≤ rows free recovery p (suc w)
  unfolding rows
  rows_grow zero w = omega arith
  rows_grow (suc p) w = next_grows (free p) (recovery p) (rows free recovery p) w

  rows_rise : (p w d : ℕ) → rows free recovery p w ≤ rows free recovery p (w + d)
  rows_rise p w zero = rw (add-zero w) (omega arith)
  rows_rise p w (suc d) = rw (add-suc w d) (omega (arith, rows_rise p w d, rows_grow p (w + d)))

  rows_up : (p w k : ℕ) → w ≤ k → rows free recovery p w ≤ rows free recovery p k
  rows_up p w k l = rw (sym (add-sub_of_le l)) (rows_rise p w (k - w))

  -- with recoveries of at most m the entry for w is at most w × m
  pub rows_fit : (m p w : ℕ) → ((q : ℕ) → q < p → recovery q ≤ m) → rows free recovery p w ≤ w * m
  unfolding rows
  rows_fit m zero w h = zero-le
  rows_fit m (suc p) w h =
      next_fits (free p) (recovery p) (rows free recovery p) m (λ u. rows_fit m p u (λ q l. h q (omega arith))) (h p (omega arith)) w

  -- ---- the extra work of a spread of faults

  -- the extra work just after the first p finishes, with these faults at each
  unfoldable pub leaves : (ℕ → ℕ) → ℕ → ℕ
  leaves faults zero = 0
  leaves faults (suc p) = leaves faults p - free p + faults p * recovery p

  pub leaves_same : (f g : ℕ → ℕ) (p : ℕ) → ((q : ℕ) → q < p → f q ≡ g q) → leaves f p ≡ leaves g p
  unfolding leaves
  leaves_same f g zero h = refl
  leaves_same f g (suc p) h =
      omega (arith, leaves_same f g p (λ q l. h q (omega arith)), ap (λ x. x * recovery p) (h p (omega arith)))

  -- ---- no spread leaves more

  leaves_within : (faults : ℕ → ℕ) (p : ℕ) → leaves faults p ≤ rows free recovery p (total p faults)
  unfolding leaves total rows
  leaves_within faults zero = zero-le
  leaves_within faults (suc p) =
      omega (arith, leaves_within faults p, next_bounds (free p) (recovery p) (rows free recovery p) (rows_none p) (total p faults) (faults p))

  -- No spread of at most k faults leaves more than the row's entry for k.
  pub rows_bound : (faults : ℕ → ℕ) (p k : ℕ) → total p faults ≤ k → leaves faults p ≤ rows free recovery p k
  rows_bound faults p k l = omega (arith, leaves_within faults p, rows_up p (total p faults) k l)

  -- ---- some spread leaves as much

  -- at most w faults, all at the first p finishes, that leave x
  pub record Leaves (p w x : ℕ) : Type 0 where
    pub faults : ℕ → ℕ
    pub few : total p faults ≤ w
    pub none_later : (q : ℕ) → p ≤ q → faults q ≡ 0
    pub leave : leaves faults p ≡ x

  -- Some spread of at most w faults leaves the row's entry for w.
  pub rows_reached : (p w : ℕ) → Leaves p w (rows free recovery p w)
  unfolding leaves total rows
  rows_reached zero w = record { faults = λ q. 0; few = zero-le; none_later = λ q l. refl; leave = refl }
  rows_reached (suc p) w =
      let c = next-comes (free p) (recovery p) (rows free recovery p) (rows_none p) w in
      let r = rows_reached p c.u in
      let faults : ℕ → ℕ = λ q. cond (eqb q p) c.f (r.faults q) in
      let own : faults p ≡ c.f = rw (eq-eqb p p refl) in
      let others : (q : ℕ) → (q ≡ p → ⊥) → faults q ≡ r.faults q = λ q d. rw (ne_eqb q p d) in
      let same : (q : ℕ) → q < p → faults q ≡ r.faults q = λ q l. others q (λ e. omega arith) in
      record {
        faults = faults;
        few = omega (arith, own, total_same p faults r.faults same, r.few, c.shares);
        none_later = λ q l. others q (λ e. omega arith) ∙ r.none_later q (omega arith);
        leave = omega (arith, c.cost, r.leave, leaves_same faults r.faults p same, ap (λ x. x * recovery p) own);
      }
