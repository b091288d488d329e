-- A pattern's extra work just after each fault-free finish, over the finishing places.
--
-- Between two finishes extra work only falls, by one in each idle slot and not below zero: several such steps are one step by the number of
-- free slots (extra_between). At a finish it grows by that job's f × V alone, since no other job finishes then (grows_at). So after the first p
-- finishes it is what the pattern's faults leave by formula (6)'s own steps (extra-after). Assumes nothing.
use Prim.Native.Nat.{ℕ, zero, suc, ◌+◌, ◌-◌, ◌*◌, ◌≤◌, ◌<◌}
use native.Mathlib.Nat.{add-zero, add-suc}
use native.Mathlib.Omega.{arith}
use mathlib.Core.Path.{◌≡◌, refl, sym, ap, ◌∙◌}
use mathlib.Core.Bool.{Bool, cond}
use mathlib.Core.List.{List}
use lib.ListN.{get_or}
use lib.Dec.{ltb, eqb}
use borrow.Author.Tests.{ltb-true, ltb-false, eq-eqb, ne_eqb, eqb-true, eqb-false}
use Rattle.jobs.specs.Below.{total, count}
use Rattle.jobs.specs.Table.{jobs, recovery}
use Rattle.jobs.proofs.Below.{by_cases, total_same, total_zero, total_one, count_none}
use Rattle.jobs.proofs.Refusals.{Good}
use Rattle.frame.specs.Schedule.{idle, no_faults, free_slots}
use Rattle.frame.specs.Delays.{fault_free, extra}
use Rattle.delays.proofs.Rows.{leaves}
use Rattle.delays.proofs.Places.{place_of, job_at_place, finish_at, last_finish, free_at, recovery_at, places, finishes_apart, finish_rises, last_before, last-after}

count_suc : (n : ℕ) (p : ℕ → Bool) → count (suc n) p ≡ count n p + cond (p n) 1 0
unfolding count total
count_suc n p = refl

-- the faults of a pattern at a finishing place
abbrev pub faults_at : List ℕ → List ℕ → ℕ → ℕ
faults_at table pattern p = get_or pattern (job_at_place table p) 0

module _ (table pattern : List ℕ) (good : Good table) where
  -- what a job adds at its finish, and what the jobs that finish at t add
  abbrev pub adds : ℕ → ℕ
  adds job = get_or pattern job 0 * recovery table job

  abbrev pub grows : ℕ → ℕ
  grows t = total (jobs table) (λ job. cond (eqb (fault_free table job) t) (adds job) 0)

  pub extra-next : (t : ℕ) → extra table pattern (suc t) ≡ extra table pattern t - cond (idle table (no_faults table) t) 1 0 + grows (suc t)
  unfolding extra
  extra-next t = refl

  grows-not : (t : ℕ) → ((job : ℕ) → job < jobs table → fault_free table job ≡ t → ⊥) → grows t ≡ 0
  grows-not t h = total_zero (jobs table) _ (λ job l. rw (ne_eqb (fault_free table job) t (h job l)))

  grows_at : (p : ℕ) → p < jobs table → grows (finish_at table p) ≡ faults_at table pattern p * recovery_at table p
  grows_at p l =
      total_same (jobs table) _ _ (λ job m. ap (λ b. cond b (adds job) 0) (only job m))
      ∙ total_one (jobs table) (job_at_place table p) adds ((places table).at_below p l)
    where
      only : (job : ℕ) → job < jobs table → eqb (fault_free table job) (finish_at table p) ≡ eqb (job_at_place table p) job
      only job m =
          by_cases (eqb (job_at_place table p) job)
          (λ e. eq-eqb _ _ (ap (fault_free table) (sym (eqb-true _ _ e))) ∙ sym e)
          (λ e. ne_eqb _ _ (λ f. finishes_apart table good job (job_at_place table p) m ((places table).at_below p l) (λ s. eqb-false _ _ e (sym s)) f) ∙ sym e)

  -- the idle slots among the d from the finish before place p
  abbrev idle_after : ℕ → ℕ → ℕ
  idle_after p d = count d (λ i. idle table (no_faults table) (last_finish table p + i))

  -- no job finishes between the finish before place p and that at p
  not_between : (p t : ℕ) → p < jobs table → last_finish table p < t → t < finish_at table p → (job : ℕ) → job < jobs table → fault_free table job ≡ t → ⊥
  not_between p t l after before job m e =
      let q = place_of table job in
      let at : finish_at table q ≡ t = ap (fault_free table) ((places table).at_number job m) ∙ e in
      let q-below = (places table).number_below job m in
      by_cases (ltb q p)
      (λ h. omega (arith, last-after table good p q (ltb-true q p h) (omega arith)))
      (λ h.
      by_cases (ltb p q)
      (λ g. omega (arith, finish_rises table good p q (ltb-true p q g) q-below))
      (λ g. omega (arith, ap (finish_at table) (same p q (ltb-false q p h) (ltb-false p q g)))))
    where
      same : (p q : ℕ) → p ≤ q → q ≤ p → p ≡ q
      same p q a b = omega arith

  -- Several steps of one are one step by their number.
  extra_between : (p d : ℕ) → p < jobs table → last_finish table p + d < finish_at table p
      → extra table pattern (last_finish table p + d) ≡ extra table pattern (last_finish table p) - idle_after p d
  extra_between p zero l h = rw (add-zero (last_finish table p)) (omega (arith, count_none (λ i. idle table (no_faults table) (last_finish table p + i))))
  extra_between p (suc d) l h =
      let t = last_finish table p + d in
      let none = grows-not (suc t) (not_between p (suc t) l (omega arith) (omega arith)) in
      rw (add-suc (last_finish table p) d)
      (omega (arith, extra-next t, none, extra_between p d l (omega arith), count_suc d (λ i. idle table (no_faults table) (last_finish table p + i))))

  -- From one finish to just after the next.
  extra-finish : (p : ℕ) → p < jobs table
      → extra table pattern (finish_at table p) ≡ extra table pattern (last_finish table p) - free_at table p + faults_at table pattern p * recovery_at table p
  unfolding free_slots
  extra-finish p l =
      let d = finish_at table p - last_finish table p - 1 in
      let here : finish_at table p ≡ suc (last_finish table p + d) = omega (arith, last_before table good p l) in
      let far : finish_at table p - last_finish table p ≡ suc d = omega (arith, last_before table good p l) in
      omega (
        arith,
        ap (extra table pattern) here,
        extra-next (last_finish table p + d),
        ap grows here,
        grows_at p l,
        extra_between p d l (omega arith),
        ap (λ m. count m (λ i. idle table (no_faults table) (last_finish table p + i))) far,
        count_suc d (λ i. idle table (no_faults table) (last_finish table p + i)),
      )

  -- A pattern's extra work just after the first p finishes.
  pub extra-after : (p : ℕ) → p ≤ jobs table → extra table pattern (last_finish table p) ≡ leaves (free_at table) (recovery_at table) (faults_at table pattern) p
  unfolding last_finish leaves extra
  extra-after zero l = refl
  extra-after (suc p) l = rw (← extra-after p (omega arith)) (extra-finish p l)

  -- A pattern's extra work just after a job's fault-free finish.
  pub extra_at_finish : (job : ℕ) → job < jobs table
      → extra table pattern (fault_free table job) ≡ leaves (free_at table) (recovery_at table) (faults_at table pattern) (suc (place_of table job))
  unfolding last_finish
  extra_at_finish job l =
      ap (λ j. extra table pattern (fault_free table j)) (sym ((places table).at_number job l)) ∙ extra-after (suc (place_of table job)) ((places table).number_below job l)
