-- Laws of the refusals, which every ask needs.
--
-- In order: one condition; the first of several; what a table that is not refused is like. Assumes nothing.
use Prim.Native.Nat.{ℕ, ◌+◌, ◌*◌, ◌%◌, ◌≤◌, ◌<◌}
use native.Mathlib.Nat.{div-add-mod', mul-add-mod_self_right, mod-eq_of_lt}
use native.Mathlib.Omega.{arith}
use mathlib.Core.Path.{◌≡◌, refl, sym, ap, ◌∙◌}
use mathlib.Core.Bool.{Bool, true, false}
use mathlib.Core.List.{List, [], ◌∷◌, ◌++◌}
use lib.ListN.{length, get_or}
use lib.Dec.{leb, lit<}
use borrow.Author.Tests.{ltb-false, leb-true, eqb-true, not-false}
use Rattle.jobs.specs.Below.{least}
use Rattle.jobs.specs.Table.{row_words, jobs, word, ready, run, deadline, recovery, lowest, highest, in_range}
use Rattle.std.specs.Prelude.{Ok, Err}
use Rattle.jobs.specs.Refusals.{Check, fine, given, refused, after, first, cut_row, too_many_jobs, out_of_range, table_refusals}
use Rattle.jobs.specs.declared.refusal.Reason.{Reason}
use Rattle.jobs.specs.declared.refusal.Reason.TheVariants.{CutRow, TooManyJobs, OutOfRange}
use Rattle.jobs.specs.declared.refusal.Refusal.{Refusal}
use Rattle.jobs.proofs.Below.{and_left, and_right, before_least}
use Rattle.jobs.proofs.Words.{bad_word}

-- ---- one condition

pub refused_not_fine : {refusal : Refusal} → ◌≡◌ {A = Check} (Err refusal) fine → ⊥
refused_not_fine e = cc

pub given_when : {test : Bool} (reason : Reason) (place : ℕ) → test ≡ true → given test reason place ≡ Err (refused reason place)
given_when reason place e = rw e

pub given-unless : {test : Bool} (reason : Reason) (place : ℕ) → test ≡ false → given test reason place ≡ fine
given-unless reason place e = rw e

-- what is fine was not given
pub not-given : (test : Bool) (reason : Reason) (place : ℕ) → given test reason place ≡ fine → test ≡ false
not-given true reason place e = absurd (refused_not_fine e)
not-given false reason place e = refl

-- ---- the first of several

pub after_fine : (a b : Check) → after a b ≡ fine → (a ≡ fine) × (b ≡ fine)
after_fine (Ok tt) b e = (refl, e)
after_fine (Err refusal) b e = absurd (refused_not_fine e)

pub after-after : (a b c : Check) → after (after a b) c ≡ after a (after b c)
after-after (Ok tt) b c = refl
after-after (Err refusal) b c = refl

pub after_last : (a : Check) → after a fine ≡ a
after_last (Ok tt) = refl
after_last (Err refusal) = refl

pub first-append : (xs ys : List Check) → first (xs ++ ys) ≡ after (first xs) (first ys)
first-append [] ys = refl
first-append (x ∷ xs) ys = ap (after x) (first-append xs ys) ∙ sym (after-after x (first xs) (first ys))

pub fine_append : (xs ys : List Check) → first (xs ++ ys) ≡ fine → (first xs ≡ fine) × (first ys ≡ fine)
fine_append xs ys e = after_fine (first xs) (first ys) (sym (first-append xs ys) ∙ e)

-- ---- a table that is not refused

-- The length is a multiple of four, the jobs are at most 64, and each field of each job is in its range.
pub record Good (table : List ℕ) : Type 0 where
  pub whole_rows : length table ≡ jobs table * row_words
  pub few_jobs : jobs table ≤ 64
  pub ready_at_most : (job : ℕ) → job < jobs table → ready table job ≤ 1000000
  pub run-at_least : (job : ℕ) → job < jobs table → 1 ≤ run table job
  pub run_at_most : (job : ℕ) → job < jobs table → run table job ≤ 100000
  pub deadline_at_most : (job : ℕ) → job < jobs table → deadline table job ≤ 10000000
  pub recovery_at_most : (job : ℕ) → job < jobs table → recovery table job ≤ 100000

module _ (table : List ℕ) (not_refused : first (table_refusals table) ≡ fine) where
  none_given : (cut_row table ≡ fine) × (too_many_jobs table ≡ fine) × (out_of_range table ≡ fine)
  none_given =
      let rest = after_fine (cut_row table) _ not_refused in
      let last = after_fine (too_many_jobs table) _ rest.1 in
      (rest.0, last.0, (after_fine (out_of_range table) _ last.1).0)

  whole : length table ≡ jobs table * row_words
  whole =
      let no-rest = eqb-true (length table % row_words) 0 (not-false _ (not-given _ CutRow (length table) none_given.0)) in
      omega (arith, no-rest, div-add-mod' (length table) row_words)

  words-in_range : (i : ℕ) → i < length table → in_range (i % row_words) (get_or table i 0) ≡ true
  words-in_range i l =
      let past : length table ≤ least (length table) (bad_word table) = ltb-false _ _ (not-given _ OutOfRange _ none_given.2) in
      not-false _ (before_least (length table) (bad_word table) i (omega arith))

  fields_in_range : (job field : ℕ) → job < jobs table → field < row_words → in_range field (word table job field) ≡ true
  fields_in_range job field l m =
      let in_row : (job * row_words + field) % row_words ≡ field = mul-add-mod_self_right job row_words field ∙ mod-eq_of_lt m in
      rw in_row at (words-in_range (job * row_words + field) (omega (arith, whole)))

  at_least : (job field : ℕ) → job < jobs table → field < row_words → lowest field ≤ word table job field
  at_least job field l m = leb-true _ _ (and_left _ _ (fields_in_range job field l m))

  at_most : (job field : ℕ) → job < jobs table → field < row_words → word table job field ≤ highest field
  at_most job field l m = leb-true _ _ (and_right (leb (lowest field) (word table job field)) _ (fields_in_range job field l m))

  pub good : Good table
  good =
      record {
        whole_rows = whole;
        few_jobs = ltb-false 64 (jobs table) (not-given _ TooManyJobs 0 none_given.1);
        ready_at_most = λ job l. at_most job 0 l (lit< tt);
        run-at_least = λ job l. at_least job 1 l (lit< tt);
        run_at_most = λ job l. at_most job 1 l (lit< tt);
        deadline_at_most = λ job l. at_most job 2 l (lit< tt);
        recovery_at_most = λ job l. at_most job 3 l (lit< tt);
      }
