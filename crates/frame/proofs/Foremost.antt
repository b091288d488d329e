-- Of the jobs that have p, one is foremost if there is any, and only one: urgency is an order. Assumes nothing.
use Prim.Native.Nat.{ℕ, zero, suc, ◌<◌}
use native.Mathlib.Omega.{arith}
use mathlib.Core.Path.{◌≡◌, sym, ap, ◌∙◌}
use mathlib.Core.Bool.{Bool, true, false, ◌&&◌, true≢false, false≢true}
use mathlib.Core.List.{List}
use lib.Dec.{ltb}
use borrow.Author.Tests.{ltb-true, lt-ltb, not-true}
use Rattle.jobs.specs.Below.{some}
use Rattle.jobs.specs.Table.{jobs}
use Rattle.jobs.specs.Urgency.{urgent}
use Rattle.jobs.proofs.Below.{by_cases, and_left, and_right, below_suc, none_at, none_all}
use Rattle.jobs.proofs.Urgency.{StrictOrder, urgency_order}
use Rattle.frame.specs.Schedule.{foremost}

module _ (table : List ℕ) (p : ℕ → Bool) where
  -- a job has p, and no other that has p is more urgent
  pub record Foremost (job : ℕ) : Type 0 where
    pub is_job : job < jobs table
    pub has : p job ≡ true
    pub best : (other : ℕ) → other < jobs table → p other ≡ true → urgent table other job ≡ false

  pub foremost_is : (job : ℕ) → foremost table p job ≡ true → Foremost job
  unfolding foremost
  foremost_is job e =
      let both = and_left (ltb job (jobs table) && p job) _ e in
      let none = not-true _ (and_right (ltb job (jobs table) && p job) _ e) in
      record {
        is_job = ltb-true _ _ (and_left (ltb job (jobs table)) (p job) both);
        has = and_right (ltb job (jobs table)) (p job) both;
        best = λ other l h. rw h at (none_at (jobs table) (λ i. p i && urgent table i job) none other l);
      }

  pub is_foremost : (job : ℕ) → Foremost job → foremost table p job ≡ true
  unfolding foremost
  is_foremost job f =
      rw (lt-ltb job (jobs table) f.is_job, f.has, none_all (jobs table) (λ i. p i && urgent table i job) none)
    where
      none : (i : ℕ) → i < jobs table → (p i && urgent table i job) ≡ false
      none i l = by_cases (p i) (λ h. rw h (f.best i l h)) (λ h. rw h)

  -- the most urgent that has p among the jobs below m
  record Best (m job : ℕ) : Type 0 where
    below : job < m
    has : p job ≡ true
    best : (other : ℕ) → other < m → p other ≡ true → urgent table other job ≡ false

  -- one job more, which has p: it is the best or leaves the best as it is
  best_more : (m job : ℕ) → p m ≡ true → Best m job → (next : ℕ) × Best (suc m) next
  best_more m job h b =
      by_cases (urgent table m job)
      (λ u. (
        m,
        record {
          below = omega arith;
          has = h;
          best =
              λ other l k.
              below_suc l
              (λ i.
              by_cases (urgent table other m)
              (λ v. absurd (true≢false (sym (o.transitive other m job v u) ∙ b.best other i k)))
              (λ v. v))
              (λ i. rw i (o.irreflexive m));
        },
      ))
      (λ u. (
        job,
        record {
          below = omega (arith, b.below);
          has = b.has;
          best = λ other l k. below_suc l (λ i. b.best other i k) (λ i. rw i u);
        },
      ))
    where
      o : StrictOrder (urgent table)
      o = urgency_order table

  best_exists : (m : ℕ) → some m p ≡ true → (job : ℕ) × Best m job
  unfolding some
  best_exists zero e = absurd (false≢true e)
  best_exists (suc m) e =
      by_cases (some m p)
      (λ s. let b = best_exists m s in grow b)
      (λ s. (
        m,
        record {
          below = omega arith;
          has = rw s at e;
          best =
              λ other l k.
              below_suc l
              (λ i. absurd (true≢false (sym k ∙ none_at m p s other i)))
              (λ i. rw i ((urgency_order table).irreflexive m));
        },
      ))
    where
      grow : ((job : ℕ) × Best m job) → (job : ℕ) × Best (suc m) job
      grow b =
          by_cases (p m)
          (λ h. best_more m b.0 h b.1)
          (λ h. (
            b.0,
            record {
              below = omega (arith, b.1.below);
              has = b.1.has;
              best = λ other l k. below_suc l (λ i. b.1.best other i k) (λ i. absurd (true≢false (sym k ∙ ap p i ∙ h)));
            },
          ))

  -- Where some job has p, one is foremost.
  pub foremost_exists : some (jobs table) p ≡ true → (job : ℕ) × (foremost table p job ≡ true)
  foremost_exists e =
      let b = best_exists (jobs table) e in
      (b.0, is_foremost b.0 (record { is_job = b.1.below; has = b.1.has; best = b.1.best }))

  -- Only one is.
  pub foremost_one : (i j : ℕ) → foremost table p i ≡ true → foremost table p j ≡ true → (i ≡ j → ⊥) → ⊥
  foremost_one i j e f d =
      let a = foremost_is i e in
      let b = foremost_is j f in
      false≢true (sym (a.best j b.is_job b.has) ∙ (urgency_order table).total i j d (b.best i a.is_job a.has))
