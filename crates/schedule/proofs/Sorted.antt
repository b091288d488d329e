-- Of the jobs sorted by urgency the first that has p is the most urgent that has p, since every job stands at some rank and urgency falls from
-- rank to rank.
--
-- In order: the first element of a list that has p; the first of the jobs by urgency. Assumes nothing.
use Prim.Native.Nat.{ℕ, zero, suc, ◌≤◌, ◌<◌}
use native.Mathlib.Omega.{arith}
use mathlib.Core.Path.{◌≡◌, refl, sym, ap, ◌∙◌}
use mathlib.Core.Bool.{Bool, true, false, true≢false}
use mathlib.Core.List.{List, [], ◌∷◌}
use lib.ListN.{length, get_or, take}
use lib.Dec.{ltb}
use borrow.Author.Tests.{ltb-true, ltb-false}
use Rattle.std.specs.Prelude.{Option, Some, None, find, MatchOption}
use Rattle.std.proofs.lemmas.List.{length-take-le, get_or-take, get_or_default}
use Rattle.jobs.specs.Below.{some}
use Rattle.jobs.specs.Table.{jobs}
use Rattle.jobs.specs.Urgency.{urgent, job_at}
use Rattle.jobs.specs.Orders.{the_job, the_rank, held, by_urgency}
use Rattle.jobs.specs.declared.Job.{Job}
use Rattle.jobs.proofs.Below.{by_cases, none_all}
use Rattle.jobs.proofs.Urgency.{urgency_order}
use Rattle.jobs.proofs.Orders.{Rearranges, urgency_rearranges, held_at_most}
use Rattle.jobs.proofs.Placed.{length-filled}
use Rattle.frame.specs.Schedule.{foremost}
use Rattle.frame.proofs.Foremost.{is_foremost}

-- ---- the first element that has p

-- no element before this place has p
abbrev NoneBelow : {A : Type 0} → (A → Bool) → A → List A → ℕ → Type 0
NoneBelow p d xs r = (q : ℕ) → q < r → p (get_or xs q d) ≡ false

-- what `find` gives: the first element that has p, or none has
abbrev Found : {A : Type 0} → (A → Bool) → A → List A → Option A → Type 0
Found p d xs result = MatchOption result (NoneBelow p d xs (length xs)) (λ x. (r : ℕ) × (r < length xs) × (get_or xs r d ≡ x) × (p x ≡ true) × NoneBelow p d xs r)

module _ {A : Type 0} (p : A → Bool) (d : A) where
  found : (xs : List A) → Found p d xs (find p xs)
  found [] = λ q l. absurd (omega arith)
  found (x ∷ xs) =
      by_cases (p x)
      (λ e. rw e (0, omega arith, refl, e, λ q l. absurd (omega arith)))
      (λ e. rw e (further e (find p xs) (found xs)))
    where
      later : p x ≡ false → (r : ℕ) → NoneBelow p d xs r → NoneBelow p d (x ∷ xs) (suc r)
      later e r none zero l = e
      later e r none (suc q) l = none q (omega arith)

      further : p x ≡ false → (result : Option A) → Found p d xs result → Found p d (x ∷ xs) result
      further e None none = later e (length xs) none
      further e (Some y) f = (suc f.0, omega (arith, f.1), f.2, f.3, later e f.0 f.4)

-- ---- the first of the jobs by urgency

-- the job at an urgency rank, and the rank of a job
abbrev job_of : List ℕ → ℕ → ℕ
job_of table rank = (get_or (by_urgency table).job rank (the_job 0)).0

abbrev rank_of : List ℕ → ℕ → ℕ
rank_of table job = (get_or (by_urgency table).rank job (the_rank 0)).0

-- the jobs by urgency, without what stands past them
abbrev pub sorted : List ℕ → List Job
sorted table = take (jobs table) (by_urgency table).job

length-by_urgency : (table : List ℕ) → length (by_urgency table).job ≡ 64
unfolding by_urgency
length-by_urgency table = length-filled the_job (held table) (job_at (urgent table) (jobs table)) (held_at_most (jobs table))

module _ (table : List ℕ) (few : jobs table ≤ 64) where
  rearranged : Rearranges (urgent table) (jobs table) (job_of table) (rank_of table)
  rearranged = urgency_rearranges table few

  pub job_at_rank : (r : ℕ) → r < jobs table → get_or (sorted table) r (the_job 0) ≡ the_job (job_of table r)
  job_at_rank r l = get_or-take (jobs table) (by_urgency table).job r (the_job 0) l

  pub sorted_long : length (sorted table) ≡ jobs table
  sorted_long = length-take-le (jobs table) (by_urgency table).job (omega (arith, length-by_urgency table))

  pub job_of_below : (r : ℕ) → r < jobs table → job_of table r < jobs table
  job_of_below = rearranged.at_below

  -- each is a job of the table
  pub sorted_below : (r : ℕ) (d : Job) → r < length (sorted table) → (get_or (sorted table) r d).0 < jobs table
  sorted_below r d l =
      let m : r < jobs table = omega (arith, sorted_long) in
      rw (get_or_default (sorted table) r d (the_job 0) l, job_at_rank r m) (job_of_below r m)

  module _ (p : Job → Bool) where
    abbrev has : ℕ → Bool
    has i = p (the_job i)

    not_more_urgent : (i j : ℕ) → urgent table j i ≡ true → urgent table i j ≡ false
    not_more_urgent i j u =
        by_cases (urgent table i j)
        (λ v. absurd (true≢false (sym ((urgency_order table).transitive i j i v u) ∙ (urgency_order table).irreflexive i)))
        (λ v. v)

    first_is_foremost : (rank : ℕ) → rank < jobs table → ((r : ℕ) → r < rank → has (job_of table r) ≡ false) → has (job_of table rank) ≡ true
        → foremost table has (job_of table rank) ≡ true
    first_is_foremost rank l none h =
        is_foremost table has (job_of table rank) (record { is_job = rearranged.at_below rank l; has = h; best = best })
      where
        -- a job that has p stands at this rank or a later one
        best_at : (r : ℕ) → r < jobs table → has (job_of table r) ≡ true → urgent table (job_of table r) (job_of table rank) ≡ false
        best_at r m k =
            by_cases (ltb rank r)
            (λ e. not_more_urgent (job_of table r) (job_of table rank) (rearranged.rising rank r (ltb-true rank r e) m))
            (λ e.
            by_cases (ltb r rank)
            (λ f. absurd (true≢false (sym k ∙ none r (ltb-true r rank f))))
            (λ f.
            let same : r ≡ rank = omega (arith, ltb-false rank r e, ltb-false r rank f) in
            rw same ((urgency_order table).irreflexive (job_of table rank))))

        best : (other : ℕ) → other < jobs table → has other ≡ true → urgent table other (job_of table rank) ≡ false
        best other m k =
            let back = rearranged.at_number other m in
            ap (λ i. urgent table i (job_of table rank)) (sym back) ∙ best_at (rank_of table other) (rearranged.number_below other m) (ap has back ∙ k)

    none_has : ((r : ℕ) → r < jobs table → has (job_of table r) ≡ false) → some (jobs table) has ≡ false
    none_has none =
        none_all (jobs table) has (λ i l. ap has (sym (rearranged.at_number i l)) ∙ none (rank_of table i) (rearranged.number_below i l))

    below : (n : ℕ) → n ≤ jobs table → NoneBelow p (the_job 0) (sorted table) n → (r : ℕ) → r < n → has (job_of table r) ≡ false
    below n m none r l = ap p (sym (job_at_rank r (omega arith))) ∙ none r l

    -- what `find` gives on the jobs sorted by urgency: the most urgent that has p, or none has
    pub most_urgent : (job : Job) → Some job ≡ find p (sorted table) → foremost table has job.0 ≡ true
    most_urgent job e =
        let f : Found p (the_job 0) (sorted table) (Some job) = rw (sym e) at (found p (the_job 0) (sorted table)) in
        let l : f.0 < jobs table = omega (arith, f.1, sorted_long) in
        let here : the_job (job_of table f.0) ≡ job = sym (job_at_rank f.0 l) ∙ f.2 in
        rw (ap (λ (j : Job). j.0) here) at (first_is_foremost f.0 l (below f.0 (omega arith) f.4) (ap p here ∙ f.3))

    pub none_chosen : None ≡ find p (sorted table) → some (jobs table) has ≡ false
    none_chosen e =
        let none : Found p (the_job 0) (sorted table) None = rw (sym e) at (found p (the_job 0) (sorted table)) in
        none_has (below (jobs table) (omega arith) (rw sorted_long at none))
