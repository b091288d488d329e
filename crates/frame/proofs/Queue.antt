-- A queue of arrivals, and where it runs empty.
--
-- Arrival q, if it is on, brings work ν q at time ρ q, and arrivals come in the order of their times. One slot takes one unit off what is
-- left. What is left does not depend on the order of service, so the queue served first come first served gives it: `ends p` is when the
-- first p arrivals are served, and with all of them come, `ends p ∸ t` is left (queue_left). After an arrival comes, the queue is first
-- empty where the next arrival finds all before it served (queue_empties).
--
-- In order: definitions; one arrival more; a bound; what is left; where it runs empty. Assumes nothing.
use Prim.Native.Nat.{ℕ, zero, suc, ◌+◌, ◌-◌, ◌≤◌, ◌<◌, max}
use native.Mathlib.Nat.{add-zero, add-suc, add-sub_of_le}
use native.Mathlib.Omega.{arith}
use mathlib.Core.Path.{◌≡◌, refl, sym, ap, ◌∙◌, subst}
use mathlib.Core.Bool.{Bool, true, false, cond, ◌&&◌, true≢false}
use lib.Dec.{leb, ltb, eqb}
use borrow.Author.Tests.{ltb-true, ltb-false, lt-ltb, leb-true, leb-false, eqb-true, eq-eqb}
use Rattle.jobs.specs.Below.{total, least}
use Rattle.jobs.proofs.Below.{by_cases, and_left, and_right, below_suc, total_more, total_zero, least-le, before_least, least-cases}

-- e is the first time after r at which g is zero
pub record FirstZero (g : ℕ → ℕ) (r e : ℕ) : Type 0 where
  pub later : r < e
  pub zero : g e ≡ 0
  pub before : (t : ℕ) → r < t → t < e → 0 < g t

module _ (ρ ν : ℕ → ℕ) (on : ℕ → Bool) where
  -- the work that comes at time t, of the first p arrivals
  unfoldable pub comes : ℕ → ℕ → ℕ
  comes p t = total p (λ q. cond (on q && eqb (ρ q) t) (ν q) 0)

  -- the work that is left at time t, of the first p arrivals and before what comes at t
  unfoldable pub left : ℕ → ℕ → ℕ
  left p zero = 0
  left p (suc t) = left p t + comes p t - 1

  -- when the first p arrivals are served, first come first served
  unfoldable pub ends : ℕ → ℕ
  ends zero = 0
  ends (suc p) = cond (on p) (max (ends p) (ρ p) + ν p) (ends p)

  -- arrival p, after arrival own, finds all before it served
  unfoldable pub halts : ℕ → ℕ → Bool
  halts own p = ltb own p && on p && leb (ends p) (ρ p)

  -- ---- one arrival more

  comes_none : (p t : ℕ) → ((q : ℕ) → q < p → on q ≡ true → ρ q ≡ t → ⊥) → comes p t ≡ 0
  unfolding comes
  comes_none p t h =
      total_zero p _
      (λ q l.
      by_cases (on q && eqb (ρ q) t)
      (λ e. absurd (h q l (and_left _ _ e) (eqb-true (ρ q) t (and_right (on q) _ e))))
      (λ e. rw e))

  comes_now : (p : ℕ) → on p ≡ true → comes (suc p) (ρ p) ≡ comes p (ρ p) + ν p
  unfolding comes total
  comes_now p o = rw (o, eq-eqb (ρ p) (ρ p) refl)

  comes-not_now : (p t : ℕ) → (on p ≡ true → ρ p ≡ t → ⊥) → comes (suc p) t ≡ comes p t
  unfolding comes total
  comes-not_now p t h =
      by_cases (on p && eqb (ρ p) t)
      (λ e. absurd (h (and_left _ _ e) (eqb-true (ρ p) t (and_right (on p) _ e))))
      (λ e. rw e (omega arith))

  comes_more : (p t : ℕ) → comes p t ≤ comes (suc p) t
  unfolding comes total
  comes_more p t = omega arith

  -- until it comes, an arrival changes nothing, and one that is not on never does
  left_until : (p t : ℕ) → (on p ≡ true → t ≤ ρ p) → left (suc p) t ≡ left p t
  unfolding left
  left_until p zero h = refl
  left_until p (suc t) h =
      omega (arith, left_until p t (λ o. omega (arith, h o)), comes-not_now p t (λ o e. omega (arith, h o)))

  left_more : (p t : ℕ) → left p t ≤ left (suc p) t
  unfolding left
  left_more p zero = omega arith
  left_more p (suc t) = omega (arith, left_more p t, comes_more p t)

  left-all : (p d t : ℕ) → left p t ≤ left (p + d) t
  left-all p zero t = rw add-zero (omega arith)
  left-all p (suc d) t = rw add-suc (omega (arith, left-all p d t, left_more (p + d) t))

  left_nothing : (t : ℕ) → left 0 t ≡ 0
  unfolding left comes total
  left_nothing zero = refl
  left_nothing (suc t) = omega (arith, left_nothing t)

  -- ---- a bound

  -- the work of the first p arrivals
  abbrev pub all-work : ℕ → ℕ
  all-work p = total p (λ q. cond (on q) (ν q) 0)

  pub ends_bound : (p b : ℕ) → ((q : ℕ) → q < p → ρ q ≤ b) → ends p ≤ b + all-work p
  unfolding ends total
  ends_bound zero b h = omega arith
  ends_bound (suc p) b h =
      let ih = ends_bound p b (λ q k. h q (omega arith)) in
      by_cases (on p) (λ o. rw o (omega (arith, h p (omega arith)))) (λ o. rw o (omega arith))

  -- ---- what is left

  -- with one arrival more come, d slots after it came
  queue_step : (p d : ℕ) → on p ≡ true → left p (ρ p) + comes p (ρ p) ≡ ends p - ρ p → ((q : ℕ) → q < p → on q ≡ true → ρ q ≤ ρ p)
      → left (suc p) (ρ p + d) + comes (suc p) (ρ p + d) ≡ ends (suc p) - (ρ p + d)
  unfolding ends left
  queue_step p zero o ih h = rw (add-zero (ρ p), o) (omega (arith, left_until p (ρ p) (λ _. omega arith), comes_now p o))
  queue_step p (suc d) o ih h =
      rw add-suc (omega (arith, queue_step p d o ih h, comes_none (suc p) (suc (ρ p + d)) come))
    where
      come : (q : ℕ) → q < suc p → on q ≡ true → ρ q ≡ suc (ρ p + d) → ⊥
      come q l i e = below_suc l (λ k. omega (arith, h q k i)) (λ k. omega (arith, ap ρ k))

  module _ (n : ℕ) (rises : (p q : ℕ) → p ≤ q → q < n → ρ p ≤ ρ q) where
    -- with the first p arrivals come, what is left of them is what the queue served in their order has left
    pub queue_left : (p t : ℕ) → p ≤ n → ((q : ℕ) → q < p → on q ≡ true → ρ q ≤ t) → left p t + comes p t ≡ ends p - t
    unfolding ends
    queue_left zero t l h = omega (arith, left_nothing t, comes_none 0 t (λ q k. absurd (omega arith)))
    queue_left (suc p) t l h =
        by_cases (on p)
        (λ o.
        let come = h p (omega arith) o in
        rw (sym (add-sub_of_le come))
        (queue_step p (t - ρ p) o (queue_left p (ρ p) (omega arith) before) before))
        (λ o.
        let never : (on p ≡ true → ⊥) = λ i. true≢false (sym i ∙ o) in
        rw (left_until p t (λ i. absurd (never i)), comes-not_now p t (λ i e. never i), o)
        (queue_left p t (omega arith) (λ q k. h q (omega arith))))
      where
        before : (q : ℕ) → q < p → on q ≡ true → ρ q ≤ ρ p
        before q k i = rises q p (omega arith) (omega arith)

    -- the same at a time when nothing comes
    pub left_after : (p t : ℕ) → p ≤ n → ((q : ℕ) → q < p → on q ≡ true → ρ q < t) → left p t ≡ ends p - t
    left_after p t l h =
        omega (arith, queue_left p t l (λ q k o. omega (arith, h q k o)), comes_none p t (λ q k o e. omega (arith, h q k o)))

    -- until arrival p comes, it and all later ones change nothing
    pub left_rest : (p d t : ℕ) → p + d ≤ n → (0 < d → t ≤ ρ p) → left (p + d) t ≡ left p t
    left_rest p zero t l h = rw add-zero
    left_rest p (suc d) t l h =
        rw add-suc
        (left_until (p + d) t (λ _. omega (arith, h (omega arith), rises p (p + d) (omega arith) (omega arith)))
        ∙ left_rest p d t (omega arith) (λ k. h (omega arith)))

    -- ---- where it runs empty

    module _ (own : ℕ) (is-on : on own ≡ true) (below : own < n) (brings-work : 0 < ν own) where
      -- where the queue halts
      abbrev last : ℕ
      last = least n (halts own)

      own_before_last : own < last
      unfolding halts
      own_before_last =
          least-cases n (halts own)
          (λ l h. ltb-true _ _ (and_left (ltb own last) (on last) (and_left (ltb own last && on last) _ h)))
          (λ e. omega arith)

      -- between them every arrival finds the queue still served
      still_served : (p : ℕ) → own < p → p < last → on p ≡ true → ρ p < ends p
      unfolding halts
      still_served p l m o =
          by_cases (leb (ends p) (ρ p))
          (λ h. absurd (true≢false (and_true (lt-ltb own p l) o h)))
          (λ h. leb-false _ _ h)
        where
          and_true : ltb own p ≡ true → on p ≡ true → leb (ends p) (ρ p) ≡ true → true ≡ false
          and_true a b c = sym (rw (a, b, c)) ∙ before_least n (halts own) p m

      -- after arrival p every arrival before came before the end, and until the end work is left
      record Serves (p : ℕ) : Type 0 where
        later : ρ own < ends p
        come : (q : ℕ) → q < p → on q ≡ true → ρ q < ends p
        busy : (t : ℕ) → ρ own < t → t < ends p → 0 < left n t

      left_by : (p t : ℕ) → p ≤ n → left p t ≤ left n t
      left_by p t l = rw (sym (add-sub_of_le l)) (left-all p (n - p) t)

      ends_on : (p : ℕ) → on p ≡ true → ends (suc p) ≡ max (ends p) (ρ p) + ν p
      unfolding ends
      ends_on p o = rw o

      ends_off : (p : ℕ) → on p ≡ false → ends (suc p) ≡ ends p
      unfolding ends
      ends_off p o = rw o

      serves_own : Serves (suc own)
      serves_own =
          let e = ends_on own is-on in
          record {
            later = omega arith;
            come = λ q k o. omega (arith, rises q own (omega arith) below);
            busy =
                λ t i j.
                omega (
                  arith,
                  left_by (suc own) t below,
                  left_after (suc own) t below (λ q k o. omega (arith, rises q own (omega arith) below)),
                );
          }

      -- one arrival more before the queue halts
      serves_more : (p : ℕ) → own < p → p < last → Serves p → Serves (suc p)
      serves_more p l m s =
          by_cases (on p)
          (λ o.
          let k = still_served p l m o in
          let e = ends_on p o in
          let below_end : suc p ≤ n = omega (arith, least-le n (halts own)) in
          let come : ((q : ℕ) → q < suc p → on q ≡ true → ρ q < ends p) = λ q i u. below_suc i (λ v. s.come q v u) (λ v. omega (arith, ap ρ v)) in
          record {
            later = omega (arith, s.later);
            come = λ q i u. omega (arith, come q i u);
            busy =
                λ t i j.
                by_cases (ltb t (ends p))
                (λ c. s.busy t i (ltb-true _ _ c))
                (λ c.
                omega (
                  arith,
                  ltb-false t (ends p) c,
                  left_by (suc p) t below_end,
                  left_after (suc p) t below_end (λ q v u. omega (arith, come q v u, ltb-false t (ends p) c)),
                ));
          })
          (λ o.
          let e = ends_off p o in
          record {
            later = omega (arith, s.later);
            come = λ q i u. below_suc i (λ v. omega (arith, s.come q v u)) (λ v. absurd (true≢false (sym u ∙ ap on v ∙ o)));
            busy = λ t i j. s.busy t i (omega arith);
          })

      serves : (p : ℕ) → own < p → p ≤ last → Serves p
      serves zero l m = absurd (omega arith)
      serves (suc p) l m =
          below_suc l (λ k. serves_more p k m (serves p k (omega arith))) (λ e. subst (λ (q : ℕ). Serves (suc q)) e serves_own)

      -- After an arrival that brings work, the queue is first empty where it halts.
      pub queue_empties : FirstZero (left n) (ρ own) (ends last)
      unfolding halts
      queue_empties =
          let s = serves last own_before_last (omega arith) in
          let here = left_after last (ends last) (least-le n (halts own)) s.come in
          record {
            later = s.later;
            zero =
                least-cases n (halts own)
                (λ l h.
                let halted : ends last ≤ ρ last = leb-true _ _ (and_right (ltb own last && on last) _ h) in
                ap (λ m. left m (ends last)) (sym (add-sub_of_le (least-le n (halts own))))
                ∙ left_rest last (n - last) (ends last) (omega (arith, least-le n (halts own))) (λ _. halted)
                ∙ omega arith)
                (λ e. ap (λ m. left m (ends last)) (sym e) ∙ omega arith);
            before = s.busy;
          }

      bound : (p : ℕ) → own < p → p ≤ last → ends p ≤ ρ own + all-work p
      unfolding total
      bound zero l m = absurd (omega arith)
      bound (suc p) l m =
          below_suc l
          (λ k.
          by_cases (on p)
          (λ o. rw o (omega (arith, ends_on p o, still_served p k m o, bound p k (omega arith))))
          (λ o. rw o (omega (arith, ends_off p o, bound p k (omega arith)))))
          (λ e. ends_bound (suc p) (ρ own) (λ q k. rises q own (omega arith) below))

      -- It is empty no later than after the arrival itself and the work of all.
      pub queue_bound : ends last ≤ ρ own + all-work n
      queue_bound = omega (arith, bound last own_before_last (omega arith), total_more (λ q. cond (on q) (ν q) 0) last n (least-le n (halts own)))
