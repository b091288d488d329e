-- Unwinding the notes of a walk from where it stops: the counts of the turns that are passed are in place, and those of the turns before
-- are what the walk has left to unwind. Assumes nothing.
use Prim.Native.Nat.{ℕ, zero, suc, ◌-◌, ◌≤◌, ◌<◌}
use native.Mathlib.Omega.{arith}
use mathlib.Core.Path.{◌≡◌, refl, sym, ap, ◌∙◌, subst}
use mathlib.Core.Bool.{cond}
use mathlib.Core.List.{List}
use lib.ListN.{length, get_or, set, replicate, length-set, length-replicate, get_or-replicate, get_or-eq_default}
use lib.Seq.{get_or-set_same, get_or-set_other}
use lib.Dec.{ltb, eqb}
use borrow.Author.Tests.{ltb-true, ltb-false, lt-ltb, le-ltb, eqb-true, eqb-false, ne_eqb}
use Rattle.jobs.specs.Table.{jobs}
use Rattle.jobs.proofs.Below.{by_cases, least-le}
use Rattle.frame.proofs.Work.{arrivals, turn}
use Rattle.latest.proofs.Walk.{job_at_turn, Walk, stops, stop, faults_at, unwind, best, walk_of}
use Rattle.latest.proofs.Rows.{faults_within}
use Rattle.judge.specs.Notes.{TrailOf, Unwound}
use Rattle.judge.specs.declared.turns.Trail.{Trail}

-- past the turns that are unwound there are no faults
unwind_past : (walk : Walk) (p w q : ℕ) → p ≤ q → unwind walk p w q ≡ 0
unfolding unwind
unwind_past walk zero w q l = refl
unwind_past walk (suc p) w q l = rw (ne_eqb q p (λ e. omega arith)) (unwind_past walk p (w - faults_at walk p w) q (omega arith))

-- one turn less to unwind
unwind_less : (walk : Walk) (p w q : ℕ) → 0 < p → unwind walk p w q ≡ cond (eqb q (p - 1)) (faults_at walk (p - 1) w) (unwind walk (p - 1) (w - faults_at walk (p - 1) w) q)
unfolding unwind
unwind_less walk zero w q l = absurd (omega arith)
unwind_less walk (suc p) w q l = ap (λ u. cond (eqb q u) (faults_at walk u w) (unwind walk u (w - faults_at walk u w) q)) (less p)
  where
    less : (u : ℕ) → u ≡ suc u - 1
    less u = omega arith

pub zeros_at : (size i : ℕ) → ◌≡◌ {A = ℕ} (get_or (replicate size 0) i 0) 0
zeros_at size i =
    by_cases (ltb i size)
    (λ l. get_or-replicate {A = ℕ} size i 0 0 (ltb-true i size l))
    (λ l. get_or-eq_default (replicate size 0) 0 (omega (arith, length-replicate {A = ℕ} size 0, ltb-false i size l)))

-- the notes of a walk over a table, by the table's other name
pub trail_here : {table value : List ℕ} {trail : Trail} (k own : ℕ) → table ≡ value → TrailOf value k (job_at_turn value own) trail → TrailOf table k (job_at_turn table own) trail
trail_here {trail = trail} k own e t = subst (λ (v : List ℕ). TrailOf v k (job_at_turn v own) trail) (sym e) t

module _ (table : List ℕ) (k job : ℕ) where
  abbrev W : Walk
  W = walk_of table job

  abbrev all : ℕ → ℕ
  all = best W k (jobs table)

  pub record Unwinding (p w : ℕ) (counts : List ℕ) : Type 0 where
    pub long : length counts ≡ 64
    pub few : w ≤ k
    pub begun : p ≤ stop W k (jobs table)
    pub turns : p ≤ jobs table
    pub agrees : (q : ℕ) → q < jobs table → all q ≡ cond (ltb q p) (unwind W p w q) (get_or counts (job_at_turn table q) 0)

  stop_within : stop W k (jobs table) ≤ jobs table
  unfolding stop
  stop_within = least-le (jobs table) (stops W k)

  -- the note at a turn that is still to unwind
  -- the turn that is unwound next
  pub turn_before : (n p w : ℕ) (counts : List ℕ) → n ≡ jobs table → 0 < p → Unwinding p w counts → p - 1 < n
  turn_before n p w counts e l h = omega (arith, h.turns)

  pub note_is : (trail : Trail) (p w : ℕ) (d : List ℕ) (counts : List ℕ) → TrailOf table k job trail → 0 < p → w < 9 → Unwinding p w counts
      → get_or (get_or trail.picks (p - 1) d) w 0 ≡ faults_at W (p - 1) w
  note_is trail p w d counts t l m h = (t.notes (p - 1) d (omega (arith, t.stops_at, h.begun))).each w m

  pub note_within : (trail : Trail) (p w : ℕ) (d : List ℕ) (counts : List ℕ) → TrailOf table k job trail → 0 < p → w < 9 → Unwinding p w counts
      → get_or (get_or trail.picks (p - 1) d) w 0 ≤ w
  note_within trail p w d counts t l m h = omega (arith, note_is trail p w d counts t l m h, faults_within W (p - 1) w)

  pub unwinding_none : (p : ℕ) → p ≡ stop W k (jobs table) → Unwinding p k (replicate 64 0)
  unwinding_none p e =
      record {
        long = length-replicate {A = ℕ} 64 0;
        few = omega arith;
        begun = omega arith;
        turns = omega (arith, stop_within);
        agrees =
            λ q l.
            by_cases (ltb q p)
            (λ h. rw h (ap (λ u. unwind W u k q) (sym e)))
            (λ h. rw (h, zeros_at 64 (job_at_turn table q)) (unwind_past W (stop W k (jobs table)) k q (omega (arith, ltb-false q p h))));
      }

  -- one turn more is unwound: its faults are put in place
  pub unwinding_more : (p w at f : ℕ) (counts : List ℕ) → 0 < p → jobs table ≤ 64 → at ≡ job_at_turn table (p - 1) → f ≡ faults_at W (p - 1) w → Unwinding p w counts
      → Unwinding (p - 1) (w - f) (set counts at f)
  unwinding_more p w at f counts l small e d h =
      record {
        long = length-set counts at f ∙ h.long;
        few = omega (arith, h.few);
        begun = omega (arith, h.begun);
        turns = omega (arith, h.turns);
        agrees = λ q i. h.agrees q i ∙ step q i;
      }
    where
      below : at < length counts
      below = omega (arith, h.long, e, (arrivals table).at_below (p - 1) (omega (arith, h.turns)))

      apart : (q : ℕ) → q < jobs table → (q ≡ p - 1 → ⊥) → job_at_turn table q ≡ at → ⊥
      apart q i n s = n (sym ((arrivals table).number_at q i) ∙ ap (turn table) (s ∙ e) ∙ (arrivals table).number_at (p - 1) (omega (arith, h.turns)))

      step : (q : ℕ) → q < jobs table → cond (ltb q p) (unwind W p w q) (get_or counts (job_at_turn table q) 0)
          ≡ cond (ltb q (p - 1)) (unwind W (p - 1) (w - f) q) (get_or (set counts at f) (job_at_turn table q) 0)
      step q i =
          by_cases (eqb q (p - 1))
          (λ s.
          let here : q ≡ p - 1 = eqb-true q (p - 1) s in
          rw (lt-ltb q p (omega arith), le-ltb q (p - 1) (omega arith))
          (unwind_less W p w q l
          ∙ rw s (sym d)
          ∙ sym (ap (λ j. get_or (set counts at f) j 0) (ap (job_at_turn table) here ∙ sym e) ∙ get_or-set_same counts at f 0 below)))
          (λ s.
          let there : (q ≡ p - 1 → ⊥) = eqb-false q (p - 1) s in
          by_cases (ltb q (p - 1))
          (λ b.
          rw (b, lt-ltb q p (omega (arith, ltb-true q (p - 1) b)))
          (unwind_less W p w q l ∙ rw s (ap (λ x. unwind W (p - 1) (w - x) q) (sym d))))
          (λ b.
          rw (b, le-ltb q p (omega (arith, ltb-false q (p - 1) b)))
          (sym (get_or-set_other counts at (job_at_turn table q) f 0 (apart q i there)))))

  pub unwinding_done : (p w : ℕ) (counts : List ℕ) → p ≡ 0 → Unwinding p w counts → Unwound table k job counts
  unwinding_done p w counts e h =
      record {
        long = h.long;
        each =
            λ i l.
            let q = turn table i in
            let at = h.agrees q ((arrivals table).number_below i l) in
            ap (λ j. get_or counts j 0) (sym ((arrivals table).at_number i l)) ∙ sym (rw (le-ltb q p (omega arith)) at at);
      }
