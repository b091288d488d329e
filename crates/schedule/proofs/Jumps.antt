-- From event to event: while no job becomes ready, the job that runs runs on until its need is met, and an idle processor stays idle.
-- So a stretch of d slots in which no job becomes ready after the first is one step (run_jump, idle_jump). Assumes nothing.
use Prim.Native.Nat.{ℕ, zero, suc, ◌+◌, ◌≤◌, ◌<◌}
use native.Mathlib.Nat.{add-zero, add-suc, suc_inj}
use native.Mathlib.Omega.{arith}
use mathlib.Core.Path.{◌≡◌, sym, ◌∙◌}
use mathlib.Core.Bool.{true, false, true≢false}
use mathlib.Core.List.{List}
use lib.Dec.{ltb, eqb}
use borrow.Author.Tests.{ltb-true, ltb-false, eqb-true, eqb-false}
use Rattle.jobs.specs.Table.{jobs, ready}
use Rattle.jobs.specs.Urgency.{urgent}
use Rattle.jobs.proofs.Below.{by_cases}
use Rattle.jobs.proofs.Urgency.{urgency_order}
use Rattle.frame.specs.Schedule.{need, runs, had}
use Rattle.frame.proofs.Foremost.{Foremost, is_foremost}
use Rattle.frame.proofs.Slots.{waits_at, runs_at, waits_is, is_waiting, runs_is, one_runs, had-runs, had_stays, had_rests}

module _ (table pattern : List ℕ) where
  -- no job becomes ready after time t and before u
  abbrev pub Quiet : ℕ → ℕ → Type 0
  Quiet t u = (i : ℕ) → i < jobs table → t < ready table i → u ≤ ready table i

  -- what waits one slot later waited before, where no job becomes ready then
  waited : (t i : ℕ) → i < jobs table → Quiet t (suc (suc t)) → had table pattern (suc t) i ≡ had table pattern t i → waits_at table pattern (suc t) i ≡ true → waits_at table pattern t i ≡ true
  waited t i l quiet same w =
      let a = waits_is table pattern (suc t) i w in
      is_waiting table pattern t i (came a) (omega (arith, a.1))
    where
      came : (ready table i ≤ suc t) × (had table pattern (suc t) i < need table pattern i) → ready table i ≤ t
      came a =
          by_cases (ltb t (ready table i))
          (λ e. absurd (omega (arith, a.0, quiet i l (ltb-true t (ready table i) e))))
          (λ e. omega (arith, ltb-false t (ready table i) e))

  -- ---- a job runs

  module _ (t job : ℕ) (runs_now : runs_at table pattern t job ≡ true) where
    others_stay : (i : ℕ) → (i ≡ job → ⊥) → had table pattern (suc t) i ≡ had table pattern t i
    others_stay i d =
        by_cases (runs_at table pattern t i)
        (λ r. absurd (one_runs table pattern t i job r runs_now d))
        (λ r. had_stays table pattern t i r)

    -- it runs on in the next slot
    runs_on : Quiet t (suc (suc t)) → had table pattern (suc t) job < need table pattern job → runs_at table pattern (suc t) job ≡ true
    unfolding runs
    runs_on quiet h =
        is_foremost table (waits_at table pattern (suc t)) job
        (record {
          is_job = f.is_job;
          has = is_waiting table pattern (suc t) job (omega (arith, (waits_is table pattern t job f.has).0)) h;
          best = best;
        })
      where
        f : Foremost table (waits_at table pattern t) job
        f = runs_is table pattern t job runs_now

        best : (i : ℕ) → i < jobs table → waits_at table pattern (suc t) i ≡ true → urgent table i job ≡ false
        best i l w =
            by_cases (eqb i job)
            (λ e. rw (eqb-true i job e) ((urgency_order table).irreflexive job))
            (λ e. f.best i l (waited t i l quiet (others_stay i (eqb-false i job e)) w))

  module _ (t job : ℕ) (runs_now : runs_at table pattern t job ≡ true) where
    -- after e slots the job still runs, has had e more, and the others have had no more
    record Running (e : ℕ) : Type 0 where
      runs_still : runs_at table pattern (t + e) job ≡ true
      own : had table pattern (t + e) job ≡ had table pattern t job + e
      others : (i : ℕ) → (i ≡ job → ⊥) → had table pattern (t + e) i ≡ had table pattern t i

    running : (e : ℕ) → Quiet t (suc (t + e)) → had table pattern t job + e < need table pattern job → Running e
    running zero quiet h = record { runs_still = rw (add-zero t) runs_now; own = rw (add-zero t) (omega arith); others = λ i d. rw (add-zero t) }
    running (suc e) quiet h =
        let b = running e (λ i l a. omega (arith, quiet i l a)) (omega arith) in
        let one = had-runs table pattern (t + e) job b.runs_still in
        record {
          runs_still = rw (add-suc t e) (runs_on (t + e) job b.runs_still (λ i l a. omega (arith, quiet i l (omega arith))) (omega (arith, b.own)));
          own = rw (add-suc t e) (omega (arith, b.own));
          others = λ i d. rw (add-suc t e) (others_stay (t + e) job b.runs_still i d ∙ b.others i d);
        }

    -- after a jump of d slots the job has had d more, and the others no more; the last of them was its own
    pub record Ran (d : ℕ) : Type 0 where
      pub own : had table pattern (t + d) job ≡ had table pattern t job + d
      pub others : (i : ℕ) → (i ≡ job → ⊥) → had table pattern (t + d) i ≡ had table pattern t i
      pub last : (e : ℕ) → d ≡ suc e → runs_at table pattern (t + e) job ≡ true

    -- A job runs until its need is met or a job becomes ready.
    pub run_jump : (d : ℕ) → Quiet t (t + d) → had table pattern t job + d ≤ need table pattern job → Ran d
    run_jump zero quiet h =
        record { own = rw (add-zero t) (omega arith); others = λ i d. rw (add-zero t); last = λ e q. absurd (omega arith) }
    run_jump (suc d) quiet h =
        let b = running d (λ i l a. omega (arith, quiet i l a)) (omega arith) in
        let one = had-runs table pattern (t + d) job b.runs_still in
        record {
          own = rw (add-suc t d) (omega (arith, b.own));
          others = λ i e. rw (add-suc t d) (others_stay (t + d) job b.runs_still i e ∙ b.others i e);
          last = λ e q. rw (suc_inj (sym q)) b.runs_still;
        }

  -- ---- no job runs

  -- The processor is idle until a job becomes ready.
  module _ (t : ℕ) (none : (i : ℕ) → i < jobs table → waits_at table pattern t i ≡ false) where
    idle_still : (d : ℕ) → Quiet t (suc (t + d)) → (i : ℕ) → i < jobs table → (waits_at table pattern (t + d) i ≡ false) × (had table pattern (t + d) i ≡ had table pattern t i)
    idle_still zero quiet i l = (rw (add-zero t) (none i l), rw (add-zero t))
    idle_still (suc d) quiet i l =
        let b = idle_still d (λ j k a. omega (arith, quiet j k a)) i l in
        let same = had_rests table pattern (t + d) i b.0 in (
          rw (add-suc t d)
              (by_cases (waits_at table pattern (suc (t + d)) i)
              (λ w. absurd (true≢false (sym (waited (t + d) i l (λ j k a. omega (arith, quiet j k (omega arith))) same w) ∙ b.0)))
              (λ w. w)),
          rw (add-suc t d) (same ∙ b.1),
        )

    pub idle_jump : (d : ℕ) → Quiet t (t + d) → (i : ℕ) → i < jobs table → had table pattern (t + d) i ≡ had table pattern t i
    idle_jump zero quiet i l = rw (add-zero t)
    idle_jump (suc d) quiet i l =
        let b = idle_still d (λ j k a. omega (arith, quiet j k a)) i l in
        rw (add-suc t d) (had_rests table pattern (t + d) i b.0 ∙ b.1)
