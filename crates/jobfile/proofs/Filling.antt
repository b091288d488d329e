-- Laws of filling the table from a good file: how it starts, that what comes next is a job and has room, one row more, and the end. Nothing is refused in a good
-- file, and a head stands only at its start, so every record after it is a job. Assumes nothing.
use Prim.Native.Nat.{ℕ, ◌+◌, ◌≤◌, ◌<◌}
use native.Mathlib.Omega.{arith}
use mathlib.Core.Path.{◌≡◌, refl, sym, ap, ◌∙◌, subst}
use mathlib.Core.Bool.{true, false, cond, true≢false}
use mathlib.Core.List.{List, [], ◌++◌, append-nil}
use lib.ListN.{length, drop, length-append, length-drop}
use lib.Seq.{drop_at, drop-drop}
use lib.Dec.{ltb}
use borrow.Author.Tests.{le-ltb, ltb-true, ltb-false}
use borrow.Rule.Slice.PartMut.{put_mid}
use Rattle.std.specs.Prelude.{Ok, Err}
use Rattle.jobs.specs.Table.{row_words}
use Rattle.jobs.proofs.Below.{by_cases}
use Rattle.jobfile.specs.Bytes.{over}
use Rattle.jobfile.specs.Meaning.{row_of, Answer, record_at, Meaning, holds, refused, with_row, walk, is_head, headed, headless_k, meaning, filled, Good}
use Rattle.jobfile.specs.declared.Record.TheVariants.{Head, Job}
use Rattle.jobfile.proofs.Bytes.{row_here, row-length}
use Rattle.jobfile.proofs.Over.{over-length, over_part}
use Rattle.jobfile.proofs.Records.{IsHead, as_head, head_answers}
use Rattle.jobfile.proofs.Walk.{Passed, passed_none, passed_head, passed_job, passed_bad, passed_all, by-record}

-- the rows of the records passed lie over the table, and no head is still to come
pub record Filling (file table₀ table : List ℕ) (at words : ℕ) : Type 0 where
  pub n : ℕ
  pub k : ℕ
  pub rows : List ℕ
  pub passed : Passed file at n k rows
  pub no_head : at ≡ 0 → headed file ≡ false
  pub long : length rows ≡ words
  pub laid : table ≡ over rows table₀

pub headed_is : (r : Answer) → is_head r ≡ true → (k : ℕ) × (r ≡ Ok (Head k))
headed_is (Ok (Head k)) e = (k, refl)
headed_is (Ok Job) e = absurd (true≢false (sym e))
headed_is (Err refusal) e = absurd (true≢false (sym e))

pub filling_none : (file table : List ℕ) (at : ℕ) → at ≡ cond (headed file) 5 0 → Filling file table table at 0
filling_none file table at e =
    by_cases (headed file)
    (λ t.
    let h = headed_is (record_at file 0 0) t in
    let five : at ≡ 5 = rw t at e in
    record {
      n = 0;
      k = h.0;
      rows = [];
      passed = subst (λ (i : ℕ). Passed file i 0 h.0 []) (sym five) (passed_head file 0 0 headless_k [] (passed_none file) h.0 h.1);
      no_head = λ z. absurd (omega arith);
      long = refl;
      laid = refl;
    })
    (λ t.
    let zero-at : at ≡ 0 = rw t at e in
    record {
      n = 0;
      k = headless_k;
      rows = [];
      passed = subst (λ (i : ℕ). Passed file i 0 headless_k []) (sym zero-at) (passed_none file);
      no_head = λ z. t;
      long = refl;
      laid = refl;
    })

with_row_fits : (rows : List ℕ) (m : Meaning) (table : List ℕ) (k : ℕ) → with_row rows m ≡ holds table k → length rows ≤ length table
with_row_fits rows (holds t k') table k e =
    let same : rows ++ t ≡ table = cc in
    omega (arith, length-append rows t, ap length same)
with_row_fits rows (refused refusal) table k e = let z : ◌≡◌ {A = ℕ} 0 1 = cc in absurd (omega arith)

passed_fits : (file : List ℕ) (at n k : ℕ) (rows : List ℕ) (room : ℕ) → Passed file at n k rows → Good file room → length rows ≤ room
passed_fits file at n k rows room p good =
    let h = with_row_fits rows (walk (drop at file) 0 at n k) good.table good.k (sym p.means ∙ good.means) in omega arith

module _ (file table₀ table : List ℕ) (at words : ℕ) (good : Good file (length table₀)) (f : Filling file table₀ table at words) where
  pub filling_fits : length f.rows ≤ length table₀
  filling_fits = passed_fits file at f.n f.k f.rows (length table₀) f.passed good

  pub filling_length : length table ≡ length table₀
  filling_length = ap length f.laid ∙ over-length f.rows table₀ filling_fits

  pub next_is_job : at < length file → record_at (drop at file) at f.n ≡ Ok Job
  next_is_job h =
      by-record (record_at (drop at file) at f.n)
      (λ k e.
      let i = as_head (drop at file) at f.n k e in
      let first = subst (λ (a : ℕ). IsHead (drop a file) a k) i.first i in
      absurd (true≢false (ap is_head (sym (head_answers file 0 0 k first)) ∙ f.no_head i.first)))
      (λ e. e)
      (λ refusal e.
      let bad = passed_bad file at f.n f.k f.rows f.passed refusal h e in
      let means = good.means in
      let z : ◌≡◌ {A = ℕ} 0 1 = cc in
      absurd (omega arith))

  module _ (h : at < length file) where
    next_passed : Passed file (at + 20) (f.n + 1) f.k (f.rows ++ row_of (drop at file))
    next_passed = passed_job file at f.n f.k f.rows f.passed (next_is_job h)

    pub next_inside : at + 20 ≤ length file
    next_inside = next_passed.inside

    pub next_fits : words + row_words ≤ length table₀
    next_fits =
        let l = passed_fits file (at + 20) (f.n + 1) f.k (f.rows ++ row_of (drop at file)) (length table₀) next_passed good in
        omega (arith, length-append f.rows (row_of (drop at file)), row-length (drop at file), f.long)

  -- a record's bytes cut off from the rest of the file are the next job, and its row is written
  module _ (rest own others : List ℕ) (left : rest ≡ drop at file) (cut : rest ≡ own ++ others) (whole : length own ≡ 20) where
    own_inside : at < length file
    own_inside = omega (arith, ap length left, ap length cut, length-append own others, length-drop at file)

    pub room_for_own : words + row_words ≤ length table₀
    room_for_own = next_fits own_inside

    pub others_left : others ≡ drop (at + 20) file
    others_left = sym (drop_at own others 20 whole) ∙ ap (drop 20) (sym cut ∙ left) ∙ drop-drop 20 at file

    pub filling_more : (row : List ℕ) (start size next : ℕ) → row ≡ row_of own → start ≡ words → size ≡ 4 → next ≡ words + 4
        → Filling file table₀ (put_mid start size table row) (at + 20) next
    filling_more row start size next e s z m =
        let here : row ≡ row_of (drop at file) = e ∙ sym (row_here own others whole) ∙ ap row_of (sym cut ∙ left) in
        rw (s, z, m)
        (record {
          n = f.n + 1;
          k = f.k;
          rows = f.rows ++ row_of (drop at file);
          passed = next_passed own_inside;
          no_head = λ z. absurd (omega arith);
          long = omega (arith, length-append f.rows (row_of (drop at file)), row-length (drop at file), f.long);
          laid = ap (put_mid words 4 table) here ∙ over_part table₀ table f.rows (row_of (drop at file)) words 4 f.laid f.long (row-length (drop at file));
        })

  pub filling_all : (rest : List ℕ) → rest ≡ drop at file → length rest < 20 → table ≡ filled (meaning file) table₀
  filling_all rest left h =
      let end : length file ≤ at = by_cases (ltb at (length file))
      (λ t. let i = next_inside (ltb-true _ _ t) in absurd (omega (arith, ap length left, length-drop at file)))
      (λ t. ltb-false _ _ t) in
      let all = passed_all file at f.n f.k f.rows f.passed end in
      let fits : length (f.rows ++ []) ≤ length table₀ = omega (arith, length-append f.rows [], filling_fits) in
      f.laid ∙ sym (rw (all, le-ltb _ _ fits) (ap (λ (xs : List ℕ). over xs table₀) (append-nil f.rows)))
