-- Tables whose words are all in their ranges: those that are not refused, and those that are read. A table's words are in range if its first row's and
-- the others' are, since the field of a word is its index by the row's width. Assumes nothing.
use Prim.Native.Nat.{ℕ, zero, suc, ◌+◌, ◌-◌, ◌*◌, ◌/◌, ◌%◌, ◌^◌, ◌≤◌, ◌<◌}
use native.Mathlib.Nat.{add-mod_left, mod-eq_of_lt, mul-mod_left, mul-div_cancel}
use native.Mathlib.Omega.{arith}
use mathlib.Core.Path.{◌≡◌, sym, ap, ◌∙◌, subst}
use mathlib.Core.Bool.{Bool, true, false, not}
use mathlib.Core.List.{List, [], ◌∷◌, ◌++◌}
use lib.ListN.{length, get_or, take, drop, length-append, length-drop, get_or-append, get_or-eq_default}
use lib.Seq.{get_or-take, get_or-drop, get_or-append-add}
use lib.Dec.{ltb, leb, lit≤, lit<}
use borrow.Author.Tests.{ltb-true, ltb-false, le-ltb, leb-true, eq-eqb, not-false}
use Rattle.jobs.specs.Below.{least}
use Rattle.jobs.specs.Table.{row_words, jobs, lowest, highest, in_range}
use Rattle.jobs.specs.Refusals.{fine, first, cut_row, too_many_jobs, out_of_range, table_refusals}
use Rattle.jobs.specs.declared.refusal.Reason.TheVariants.{OutOfRange}
use Rattle.jobs.proofs.Below.{by_cases, and_right, none_all, none_at, before_least, least_none}
use Rattle.jobs.proofs.Refusals.{after_fine, not-given}
use Rattle.jobfile.specs.Meaning.{strays}

abbrev pub InRange : List ℕ → Type 0
InRange table = (i : ℕ) → i < length table → in_range (i % row_words) (get_or table i 0) ≡ true

-- ---- a table that is not refused

pub fine_in_range : (table : List ℕ) → first (table_refusals table) ≡ fine → InRange table
fine_in_range table not_refused i l =
    let t = after_fine (cut_row table) (first (too_many_jobs table ∷ out_of_range table ∷ [])) not_refused in
    let u = after_fine (too_many_jobs table) (first (out_of_range table ∷ [])) t.1 in
    let v = after_fine (out_of_range table) fine u.1 in
    let bad : ℕ → Bool = λ i. not (in_range (i % row_words) (get_or table i 0)) in
    let past : length table ≤ least (length table) bad = ltb-false _ _ (not-given (ltb (least (length table) bad) (length table)) OutOfRange (least (length table) bad) v.0) in
    not-false _ (before_least (length table) bad i (omega arith))

pub in_range_fine : (table : List ℕ) (n : ℕ) → length table ≡ n * row_words → n ≤ 64 → InRange table → first (table_refusals table) ≡ fine
in_range_fine table n e h r =
    let no-rest : length table % row_words ≡ 0 = ap (λ (l : ℕ). l % row_words) e ∙ mul-mod_left n row_words in
    let few : jobs table ≤ 64 = omega (arith, ap (λ (l : ℕ). l / row_words) e ∙ mul-div_cancel n (lit< tt)) in
    let bad : ℕ → Bool = λ i. not (in_range (i % row_words) (get_or table i 0)) in
    let none : least (length table) bad ≡ length table = least_none (length table) bad (λ i l. ap not (r i l)) in
    rw (eq-eqb _ _ no-rest, le-ltb _ _ few, none, le-ltb (length table) (length table) (omega arith))

-- ---- a row and the rows after it

pub rest_in_range : (table : List ℕ) → InRange table → InRange (drop row_words table)
rest_in_range table r i l =
    rw (get_or-drop, ← add-mod_left row_words i) (r (row_words + i) (omega (arith, length-drop row_words table)))

pub row_stays : (table : List ℕ) → row_words ≤ length table → InRange table → strays (take row_words table) ≡ false
row_stays table l r =
    none_all row_words (λ field. not (in_range field (get_or (take row_words table) field 0)))
    (λ field h. rw (get_or-take row_words table field 0 h) (ap not (ap (λ (f : ℕ). in_range f (get_or table field 0)) (sym (mod-eq_of_lt h)) ∙ r field (omega arith))))

past_row : (row table : List ℕ) → length row ≡ row_words → (j : ℕ) → in_range (j % row_words) (get_or table j 0) ≡ true
    → in_range ((row_words + j) % row_words) (get_or (row ++ table) (row_words + j) 0) ≡ true
past_row row table e j q =
    rw (add-mod_left row_words j, ap (λ (m : ℕ). get_or (row ++ table) (m + j) 0) (sym e) ∙ get_or-append-add row table j 0) q

pub more_in_range : (row table : List ℕ) → length row ≡ row_words → strays row ≡ false → InRange table → InRange (row ++ table)
more_in_range row table e s r i l =
    by_cases (ltb i row_words)
    (λ t.
    let h : i < row_words = ltb-true _ _ t in
    rw (get_or-append row table 0 i (omega arith), mod-eq_of_lt h)
    (not-false _ (none_at row_words (λ field. not (in_range field (get_or row field 0))) s i h)))
    (λ t.
    let h : row_words ≤ i = ltb-false _ _ t in
    let at : row_words + (i - row_words) ≡ i = omega arith in
    subst (λ (j : ℕ). in_range (j % row_words) (get_or (row ++ table) j 0) ≡ true) at
    (past_row row table e (i - row_words) (r (i - row_words) (omega (arith, length-append row table)))))

-- ---- a word in range is a 32-bit number

highest_small : (field : ℕ) → highest field ≤ 10000000
highest_small zero = lit≤ tt
highest_small (suc zero) = lit≤ tt
highest_small (suc (suc zero)) = lit≤ tt
highest_small (suc (suc (suc zero))) = lit≤ tt
highest_small (suc (suc (suc (suc field)))) = lit≤ tt

pub word_fits : (table : List ℕ) → InRange table → (i : ℕ) → get_or table i 0 < 256 ^ 4
word_fits table r i =
    by_cases (ltb i (length table))
    (λ t.
    let most : get_or table i 0 ≤ highest (i % row_words) = leb-true _ _ (and_right (leb (lowest (i % row_words)) (get_or table i 0)) _ (r i (ltb-true _ _ t))) in
    omega (arith, highest_small (i % row_words)))
    (λ t. rw (get_or-eq_default table 0 {n = i} (ltb-false _ _ t)) (lit< tt))
