-- Laws of the walk over the records, and of the answer at its end. A record that is a head or a job is passed whole, since nothing is tested in the bytes that
-- are still to pass; so a file means the rows so far and what the walk from there on means. Assumes nothing.
use Prim.Native.Nat.{ℕ, zero, suc, ◌+◌, ◌*◌, ◌/◌, ◌≤◌, ◌<◌}
use native.Mathlib.Nat.{mul-div_cancel}
use native.Mathlib.Omega.{arith}
use mathlib.Core.Path.{◌≡◌, refl, sym, ap, ◌∙◌}
use mathlib.Core.List.{List, [], ◌∷◌, ◌++◌, append_assoc}
use lib.ListN.{length, drop, length-append, length-drop, drop_of_length-le}
use lib.Seq.{drop-drop}
use lib.Dec.{ltb}
use borrow.Author.Tests.{lt-ltb, le-ltb, ltb-false}
use Rattle.std.specs.Prelude.{Ok, Err}
use Rattle.jobs.specs.Table.{row_words, jobs}
use Rattle.jobs.specs.declared.refusal.Reason.TheVariants.{ShortTable}
use Rattle.jobs.specs.declared.refusal.Refusal.{Refusal}
use Rattle.jobs.proofs.Below.{by_cases}
use Rattle.jobfile.specs.Bytes.{words}
use Rattle.jobfile.specs.Meaning.{row_of, Answer, record_at, Meaning, holds, refused, with_row, walk, headless_k, meaning, contents, answered, filled, Good}
use Rattle.jobfile.specs.declared.Record.TheVariants.{Head, Job}
use Rattle.jobfile.proofs.Records.{as_head, as_job}

pub by-record {ℓ} : {P : Type ℓ} (r : Answer) → ((k : ℕ) → r ≡ Ok (Head k) → P) → (r ≡ Ok Job → P) → ((refusal : Refusal) → r ≡ Err refusal → P) → P
by-record (Ok (Head k)) f g h = f k refl
by-record (Ok Job) f g h = g refl
by-record (Err refusal) f g h = h refusal refl

-- ---- rows before a meaning

pub with_row_more : (rows row : List ℕ) (m : Meaning) → with_row rows (with_row row m) ≡ with_row (rows ++ row) m
with_row_more rows row (holds table k) = ap (λ (t : List ℕ). holds t k) (sym (append_assoc rows row table))
with_row_more rows row (refused refusal) = refl

pub with_row_none : (m : Meaning) → with_row [] m ≡ m
with_row_none (holds table k) = refl
with_row_none (refused refusal) = refl

-- ---- one step of the walk

walk_passes : (left : List ℕ) (pass at n k : ℕ) → walk left pass at n k ≡ walk (drop pass left) 0 at n k
unfolding walk
walk_passes [] zero at n k = refl
walk_passes [] (suc pass) at n k = refl
walk_passes (b ∷ left) zero at n k = refl
walk_passes (b ∷ left) (suc pass) at n k = walk_passes left pass at n k

pub walk_ends : (at n k : ℕ) → walk [] 0 at n k ≡ holds [] k
unfolding walk
walk_ends at n k = refl

pub walk-head : (left : List ℕ) (at n k faults : ℕ) → record_at left at n ≡ Ok (Head faults) → walk left 0 at n k ≡ walk (drop 5 left) 0 (at + 5) n faults
unfolding walk
walk-head [] at n k faults e = let h : 5 ≤ length {A = ℕ} [] = (as_head [] at n faults e).whole in absurd (omega arith)
walk-head (b ∷ left) at n k faults e = rw (e, walk) (walk_passes left 4 (at + 5) n faults)

pub walk-job : (left : List ℕ) (at n k : ℕ) → record_at left at n ≡ Ok Job → walk left 0 at n k ≡ with_row (row_of left) (walk (drop 20 left) 0 (at + 20) (n + 1) k)
unfolding walk
walk-job [] at n k e = let h : 20 ≤ length {A = ℕ} [] = (as_job [] at n e).whole in absurd (omega arith)
walk-job (b ∷ left) at n k e = rw (e, walk) (ap (with_row (row_of (b ∷ left))) (walk_passes left 19 (at + 20) (n + 1) k))

pub walk_bad : (left : List ℕ) (at n k : ℕ) (refusal : Refusal) → 0 < length left → record_at left at n ≡ Err refusal → walk left 0 at n k ≡ refused refusal
unfolding walk
walk_bad [] at n k refusal h e = absurd (omega arith)
walk_bad (b ∷ left) at n k refusal h e = rw (e, walk)

-- ---- the rows of the records passed, and the walk from the next record on

pub record Passed (file : List ℕ) (at n k : ℕ) (rows : List ℕ) : Type 0 where
  pub means : meaning file ≡ with_row rows (walk (drop at file) 0 at n k)
  pub long : length rows ≡ n * row_words
  pub inside : at ≤ length file
  pub few : n ≤ 64

pub passed_none : (file : List ℕ) → Passed file 0 0 headless_k []
unfolding meaning
passed_none file = record { means = sym (with_row_none (walk file 0 0 0 headless_k)); long = refl; inside = omega arith; few = omega arith }

module _ (file : List ℕ) (at n k : ℕ) (rows : List ℕ) (p : Passed file at n k rows) where
  pub passed_head : (faults : ℕ) → record_at (drop at file) at n ≡ Ok (Head faults) → Passed file (at + 5) n faults rows
  passed_head faults e =
      let i = as_head (drop at file) at n faults e in
      record {
        means = p.means ∙ ap (with_row rows) (walk-head (drop at file) at n k faults e ∙ ap (λ (l : List ℕ). walk l 0 (at + 5) n faults) (drop-drop 5 at file));
        long = p.long;
        inside = omega (arith, length-drop at file);
        few = p.few;
      }

  pub passed_job : record_at (drop at file) at n ≡ Ok Job → Passed file (at + 20) (n + 1) k (rows ++ row_of (drop at file))
  unfolding words
  passed_job e =
      let i = as_job (drop at file) at n e in
      record {
        means =
            p.means
            ∙ ap (with_row rows) (walk-job (drop at file) at n k e ∙ ap (λ (l : List ℕ). with_row (row_of (drop at file)) (walk l 0 (at + 20) (n + 1) k)) (drop-drop 20 at file))
            ∙ with_row_more rows (row_of (drop at file)) (walk (drop (at + 20) file) 0 (at + 20) (n + 1) k);
        long = omega (arith, length-append rows (row_of (drop at file)));
        inside = omega (arith, length-drop at file);
        few = omega arith;
      }

  pub passed_bad : (refusal : Refusal) → at < length file → record_at (drop at file) at n ≡ Err refusal → meaning file ≡ refused refusal
  passed_bad refusal h e =
      p.means ∙ ap (with_row rows) (walk_bad (drop at file) at n k refusal (omega (arith, length-drop at file)) e)

  pub passed_all : length file ≤ at → meaning file ≡ holds (rows ++ []) k
  passed_all h =
      p.means ∙ ap (with_row rows) (ap (λ (l : List ℕ). walk l 0 at n k) (drop_of_length-le file h) ∙ walk_ends at n k)

  pub passed_length : length (rows ++ []) ≡ n * row_words
  passed_length = omega (arith, length-append rows [], p.long)

  pub passed_count : jobs (rows ++ []) ≡ n
  passed_count = ap (λ (l : ℕ). l / row_words) passed_length ∙ mul-div_cancel n (omega arith)

-- ---- the answer for a meaning

module _ (m : Meaning) (room size : ℕ) where
  pub answers_refusal : (refusal : Refusal) → m ≡ refused refusal → Err refusal ≡ answered m room size
  answers_refusal refusal e = rw e

  pub answers_no_room : (table : List ℕ) (k : ℕ) → m ≡ holds table k → room < length table → Err (record { reason = ShortTable; place = size }) ≡ answered m room size
  answers_no_room table k e h = rw (e, lt-ltb _ _ h)

  pub answers_table : (table : List ℕ) (n k : ℕ) → m ≡ holds table k → length table ≤ room → jobs table ≡ n → contents n k ≡ answered m room size
  answers_table table n k e h q = rw (e, le-ltb _ _ h, ← q)

-- a table that is answered has room, and under a refusal the buffer is as it was
answered_good : (file : List ℕ) (m : Meaning) (room size n k : ℕ) → meaning file ≡ m → answered m room size ≡ contents n k → Good file room
answered_good file (holds table k') room size n k e a =
    by_cases (ltb room (length table))
    (λ t. let no = rw t at a in let z : ◌≡◌ {A = ℕ} 0 1 = cc in absurd (omega arith))
    (λ t. record { table = table; k = k'; means = e; fits = ltb-false _ _ t })
answered_good file (refused refusal) room size n k e a = let z : ◌≡◌ {A = ℕ} 0 1 = cc in absurd (omega arith)

pub good_file : (file : List ℕ) (room size n k : ℕ) → answered (meaning file) room size ≡ contents n k → Good file room
good_file file room size n k a = answered_good file (meaning file) room size n k refl a

pub refusal_fills_nothing : (m : Meaning) (table : List ℕ) (size : ℕ) (refusal : Refusal) → answered m (length table) size ≡ Err refusal → filled m table ≡ table
refusal_fills_nothing (holds t k) table size refusal a =
    by_cases (ltb (length table) (length t))
    (λ e. rw e)
    (λ e. let no = rw e at a in let z : ◌≡◌ {A = ℕ} 0 1 = cc in absurd (omega arith))
refusal_fills_nothing (refused r) table size refusal a = refl
