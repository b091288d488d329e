-- The latest finishes by turn and the verdict by rank, as the loops of the judge find them. Each job has a turn and a rank, so what holds
-- at every turn or rank holds of every job. Assumes nothing.
use Prim.Native.Nat.{ℕ, ◌+◌, ◌≤◌, ◌<◌}
use native.Mathlib.Numerals.{add-one}
use native.Mathlib.Omega.{arith}
use mathlib.Core.Path.{◌≡◌, sym, ap, ◌∙◌, subst}
use mathlib.Core.Bool.{true, false, true≢false}
use mathlib.Core.List.{List}
use lib.ListN.{length, get_or, set, take, length-take, length-set}
use lib.Seq.{get_or-set_same, get_or-set_other}
use Rattle.std.proofs.lemmas.List.{get_or-take}
use lib.Dec.{eqb}
use borrow.Author.Tests.{ltb-false, lt-ltb, le-ltb, eqb-true, eqb-false}
use borrow.Author.Count.{below_more}
use Rattle.jobs.specs.Table.{jobs, deadline}
use Rattle.jobs.specs.Urgency.{urgent, position, job_at}
use Rattle.jobs.specs.Orders.{the_job, by_urgency}
use Rattle.jobs.specs.Arrays.{Holds}
use Rattle.jobs.specs.declared.Job.{Job}
use Rattle.jobs.proofs.Below.{by_cases, below_suc}
use Rattle.jobs.proofs.Urgency.{urgency_order}
use Rattle.jobs.proofs.Orders.{rearranges, position_rises, job_at_below, job_of_rank}
use Rattle.frame.specs.Latest.{latest, verdict}
use Rattle.frame.specs.declared.Verdict.TheVariants.{Sound, Miss}
use Rattle.frame.proofs.Work.{arrivals}
use Rattle.frame.proofs.Verdicts.{misses, misses_is, foremost-named, meets_sound}
use Rattle.latest.proofs.Walk.{job_at_turn}
use Rattle.judge.proofs.ByTurn.{ranks_long}

-- ---- latest finishes by turn

-- the jobs of the first q turns have their latest finishes in place
pub record LateTo (table : List ℕ) (k q : ℕ) (late : List ℕ) : Type 0 where
  pub long : length late ≡ 64
  pub each : (p : ℕ) → p < q → get_or late (job_at_turn table p) 0 ≡ latest table k (job_at_turn table p)

module _ (table : List ℕ) (k : ℕ) where
  pub late_more : (q at x : ℕ) (late : List ℕ) → at ≡ job_at_turn table q → at < 64 → x ≡ latest table k (job_at_turn table q) → LateTo table k q late
      → LateTo table k (q + 1) (set late at x)
  late_more q at x late e l f h =
      record {
        long = length-set late at x ∙ h.long;
        each =
            λ p m.
            by_cases (eqb (job_at_turn table p) at)
            (λ s.
            let same = eqb-true (job_at_turn table p) at s in
            rw same (get_or-set_same late at x 0 (omega (arith, h.long)) ∙ f ∙ ap (latest table k) (sym e)))
            (λ s.
            get_or-set_other late at (job_at_turn table p) x 0 (eqb-false _ _ s)
            ∙ below_suc (rw add-one at m)
            (λ i. h.each p i)
            (λ i. absurd (eqb-false _ _ s (ap (job_at_turn table) i ∙ sym e))));
      }

  pub late_all : (n q : ℕ) (late : List ℕ) → n ≡ jobs table → n ≤ q → LateTo table k q late → Holds 64 late (jobs table) (latest table k)
  late_all n q late e l h =
      record {
        long = h.long;
        each =
            λ i m.
            let turn = (arrivals table).number_below i (omega arith) in
            let back = (arrivals table).at_number i (omega arith) in
            subst (λ (j : ℕ). get_or late j 0 ≡ latest table k j) back (h.each _ (omega (arith, turn)));
      }

-- ---- the verdict by rank

module _ (table : List ℕ) (k : ℕ) where
  -- the job of a rank
  abbrev of_rank : ℕ → ℕ
  of_rank = job_at (urgent table) (jobs table)

  -- the jobs of the first r ranks meet their deadlines
  abbrev pub MetTo : ℕ → Type 0
  MetTo r = (s : ℕ) → s < r → misses table k (of_rank s) ≡ false

  more_urgent-met : (r : ℕ) → r < jobs table → MetTo r → (i : ℕ) → i < jobs table → urgent table i (of_rank r) ≡ true → misses table k i ≡ false
  more_urgent-met r l met i m u =
      let o = rearranges (urgent table) (urgency_order table) (jobs table) in
      let before = position_rises (urgent table) (urgency_order table) (jobs table) i (of_rank r) m u in
      subst (λ (j : ℕ). misses table k j ≡ false) (o.at_number i m)
      (met (position (urgent table) (jobs table) i) (omega (arith, o.number_at r l)))

  -- the first rank that misses is named
  met_names : (r : ℕ) → r < jobs table → MetTo r → deadline table (of_rank r) < latest table k (of_rank r) → verdict table k ≡ Miss (the_job (of_rank r)) (latest table k (of_rank r))
  met_names r l met late =
      foremost-named table k (of_rank r)
      (record {
        is_job = job_at_below (urgent table) (urgency_order table) (jobs table) r l;
        has = misses_is table k (of_rank r) ∙ lt-ltb _ _ late;
        best =
            λ other m h.
            by_cases (urgent table other (of_rank r))
            (λ u. absurd (true≢false (sym h ∙ more_urgent-met r l met other m u)))
            (λ u. u);
      })

  met_more : (r : ℕ) → MetTo r → latest table k (of_rank r) ≤ deadline table (of_rank r) → MetTo (r + 1)
  met_more r met h = below_more _ r met (misses_is table k (of_rank r) ∙ le-ltb _ _ h)

  -- at rank r the loop has the job, its latest finish and its deadline
  module _ (r : ℕ) (job : Job) (end due : ℕ) (is_rank : r < jobs table) (met : MetTo r) (j : job ≡ the_job (of_rank r)) (e : end ≡ latest table k job.0) (d : due ≡ deadline table job.0) where
    end_is : end ≡ latest table k (of_rank r)
    end_is = e ∙ ap (λ (i : Job). latest table k i.0) j

    due_is : due ≡ deadline table (of_rank r)
    due_is = d ∙ ap (λ (i : Job). deadline table i.0) j

    pub named_here : due < end → Miss job end ≡ verdict table k
    named_here l =
        ap (λ (i : Job). Miss i end) j
        ∙ ap (Miss (the_job (of_rank r))) end_is
        ∙ sym (met_names r is_rank met (omega (arith, end_is, due_is)))

    pub met_here : end ≤ due → MetTo (r + 1)
    met_here l = met_more r met (omega (arith, end_is, due_is))

  pub met_all : (n r : ℕ) → n ≡ jobs table → n ≤ r → MetTo r → verdict table k ≡ Sound
  met_all n r e l met =
      meets_sound table k
      (λ job m.
      let o = rearranges (urgent table) (urgency_order table) (jobs table) in
      let found = subst (λ (j : ℕ). misses table k j ≡ false) (o.at_number job m) (met (position (urgent table) (jobs table) job) (omega (arith, o.number_below job m))) in
      ltb-false _ _ (sym (misses_is table k job) ∙ found))

  -- the job of a rank, as the first n entries of the order have it
  module _ (by_rank : List Job) (n r : ℕ) (is : by_rank ≡ (by_urgency table).job) (all : n ≡ jobs table) (few : n ≤ 64) where
    long : length by_rank ≡ 64
    long = ap length is ∙ ranks_long table

    module _ (l : r < length (take n by_rank)) where
      pub taken_rank : r < jobs table
      taken_rank = omega (arith, length-take n by_rank, long, all, few, l)

      pub taken_job : get_or (take n by_rank) r (the_job 0) ≡ the_job (of_rank r)
      taken_job =
          get_or-take n by_rank r (the_job 0) (omega (arith, taken_rank))
          ∙ ap (λ (xs : List Job). get_or xs r (the_job 0)) is
          ∙ job_of_rank table (omega arith) r (the_job 0) taken_rank

      pub taken_is_job : (get_or (take n by_rank) r (the_job 0)).0 < jobs table
      taken_is_job = omega (arith, ap (λ (j : Job). j.0) taken_job, job_at_below (urgent table) (urgency_order table) (jobs table) r taken_rank)

    pub taken_all : length (take n by_rank) ≤ r → jobs table ≤ r
    taken_all m = omega (arith, length-take n by_rank, long)
