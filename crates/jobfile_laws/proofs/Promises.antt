-- What the promises of `read` and `write` come to: two results that a promise allows are equal, reading what was written gives the table and k back, and writing
-- what was read gives the same bytes exactly if the file had a head. Each is the theorem on files, with the buffers put in. Assumes nothing.
use Prim.Native.Nat.{ℕ, ◌+◌, ◌*◌, ◌≤◌}
use native.Mathlib.Omega.{arith}
use mathlib.Core.Path.{◌≡◌, refl, sym, ap, ◌∙◌}
use mathlib.Core.Logic.{◌↔◌}
use mathlib.Core.Bool.{true, false}
use mathlib.Core.List.{List}
use lib.ListN.{length, take, drop}
use lib.Seq.{take_at}
use lib.Dec.{ltb}
use borrow.Author.Tests.{le-ltb}
use Rattle.jobs.specs.Table.{row_words, jobs}
use Rattle.std.specs.Prelude.{Result, Ok, Err}
use Rattle.jobs.specs.Refusals.{Check, fine, granted, first, table_refusals, too_many_faults}
use Rattle.jobs.specs.declared.refusal.Refusal.{Refusal}
use Rattle.jobs.proofs.Below.{by_cases}
use Rattle.jobs.proofs.Refusals.{good}
use Rattle.jobfile.specs.Bytes.{over}
use Rattle.jobfile.specs.Meaning.{Meaning, holds, refused, headed, meaning, contents, answered, filled, ReadsTo}
use Rattle.jobfile.specs.declared.Contents.{Contents}
use Rattle.jobfile.proofs.Walk.{answers_table, good_file}
use Rattle.jobfile_write.specs.Writing.{file_of, write_refusals, written, WritesTo}
use Rattle.jobfile_write.proofs.Order.{not_refused, all_fine}
use Rattle.jobfile_laws.proofs.Digits.{IsBytes}
use Rattle.jobfile_laws.proofs.RoundTrip.{read_back}
use Rattle.jobfile_laws.proofs.SameBytes.{headed_same_bytes, headless_five_more, same_bytes_iff_headed, read_table_fine, read_faults_fine}

-- ---- two results are equal

pub read_once : (file table : List ℕ) (a b : Result Contents Refusal) (t u : List ℕ) → ReadsTo file table a t → ReadsTo file table b u → (a ≡ b) × (t ≡ u)
read_once file table a b t u p q = (p.answers ∙ sym q.answers, p.fills ∙ sym q.fills)

pub write_once : (table : List ℕ) (k : ℕ) (file : List ℕ) (a b : Result ℕ Refusal) (t u : List ℕ) → WritesTo table k file a t → WritesTo table k file b u → (a ≡ b) × (t ≡ u)
write_once table k file a b t u p q = (p.answers ∙ sym q.answers, p.fills ∙ sym q.fills)

-- ---- reading what was written

fills_table : (m : Meaning) (table : List ℕ) (k : ℕ) (room : List ℕ) → m ≡ holds table k → length table ≤ length room → filled m room ≡ over table room
fills_table m table k room e h = rw (e, le-ltb _ _ h)

granted-length : (c : Check) (size len : ℕ) → Ok len ≡ granted c size → (c ≡ fine) × (len ≡ size)
granted-length (Ok tt) size len e = (refl, cc)
granted-length (Err refusal) size len e = let z : ◌≡◌ {A = ℕ} 0 1 = cc in absurd (omega arith)

pub written_means : (table : List ℕ) (k : ℕ) (buffer : List ℕ) (len : ℕ) (after : List ℕ) → WritesTo table k buffer (Ok len) after → meaning (take len after) ≡ holds table k
written_means table k buffer len after w =
    let r = granted-length (first (write_refusals table k (length buffer))) (length (file_of table k)) len w.answers in
    let f = not_refused table k (length buffer) r.0 in
    let laid : after ≡ over (file_of table k) buffer = w.fills ∙ ap (λ (c : Check). written c (file_of table k) buffer) r.0 in
    ap (λ (l : List ℕ). meaning (take len l)) laid
    ∙ ap meaning (take_at (file_of table k) (drop (length (file_of table k)) buffer) len (sym r.1))
    ∙ read_back table k f.table_fine f.faults_fine

pub read_what_was_written : (table : List ℕ) (k : ℕ) (buffer : List ℕ) (len : ℕ) (file : List ℕ) → WritesTo table k buffer (Ok len) file
    → (room : List ℕ) (answer : Result Contents Refusal) (after : List ℕ) → ReadsTo (take len file) room answer after → length table ≤ length room
    → (answer ≡ contents (jobs table) k) × (after ≡ over table room)
read_what_was_written table k buffer len file w room answer after r h =
    let means = written_means table k buffer len file w in (
      r.answers ∙ sym (answers_table (meaning (take len file)) (length room) (length (take len file)) table (jobs table) k means h refl),
      r.fills ∙ fills_table (meaning (take len file)) table k room means h,
    )

-- ---- writing what was read

-- the rows in the buffer are the table of the file, whose words are in their ranges, and n counts its jobs
pub record RowsRead (file : List ℕ) (n k : ℕ) (after : List ℕ) : Type 0 where
  pub means : meaning file ≡ holds (take (n * row_words) after) k
  pub count : n ≡ jobs (take (n * row_words) after)
  pub not_refused : first (table_refusals (take (n * row_words) after)) ≡ fine
  pub few : too_many_faults k ≡ fine

pub rows_read : (file room : List ℕ) (n k : ℕ) (after : List ℕ) → ReadsTo file room (contents n k) after → RowsRead file n k after
rows_read file room n k after r =
    let g = good_file file (length room) (length file) n k (sym r.answers) in
    let table = g.table in
    let means = g.means in
    let fits = g.fits in
    let whole = (good table (read_table_fine file table g.k means)).whole_rows in
    let answer : contents n k ≡ contents (jobs table) g.k = r.answers ∙ sym (answers_table (meaning file) (length room) (length file) table (jobs table) g.k means fits refl) in
    let same : ◌≡◌ {A = Contents} (record { n = n; k = k }) (record { n = jobs table; k = g.k }) = cc in
    let count : n ≡ jobs table = ap (λ (c : Contents). c.n) same in
    let faults : g.k ≡ k = sym (ap (λ (c : Contents). c.k) same) in
    let laid : after ≡ over table room = r.fills ∙ fills_table (meaning file) table g.k room means fits in
    let rows : take (n * row_words) after ≡ table =
    ap (take (n * row_words)) laid ∙ take_at table (drop (length table) room) (n * row_words) (whole ∙ ap (λ (m : ℕ). m * row_words) (sym count)) in
    let read : meaning file ≡ holds (take (n * row_words) after) k = means ∙ ap (holds table) faults ∙ ap (λ (t : List ℕ). holds t k) (sym rows) in
    record {
      means = read;
      count = count ∙ ap jobs (sym rows);
      not_refused = read_table_fine file (take (n * row_words) after) k read;
      few = read_faults_fine file (take (n * row_words) after) k read;
    }

-- a refusal, with room for every table, is the file's own
refusal_means : (file : List ℕ) (m : Meaning) → meaning file ≡ m → (refusal : Refusal) (room : ℕ) → 256 ≤ room → Err refusal ≡ answered m room (length file) → m ≡ refused refusal
refusal_means file (holds table k) e refusal room l a =
    let g = good table (read_table_fine file table k e) in
    let fits : ltb room (length table) ≡ false = le-ltb room (length table) (omega (arith, g.whole_rows, g.few_jobs)) in
    let no : Err refusal ≡ contents (jobs table) k = rw fits at a in
    let z : ◌≡◌ {A = ℕ} 0 1 = cc in
    absurd (omega arith)
refusal_means file (refused own) e refusal room l a = cc

pub refusal_read : (file room : List ℕ) (refusal : Refusal) (after : List ℕ) → 256 ≤ length room → ReadsTo file room (Err refusal) after → meaning file ≡ refused refusal
refusal_read file room refusal after l r = refusal_means file (meaning file) refl refusal (length room) l r.answers

pub write_what_was_read : (file room : List ℕ) (n k : ℕ) (table : List ℕ) → IsBytes file → ReadsTo file room (contents n k) table
    → (buffer : List ℕ) (answer : Result ℕ Refusal) (after : List ℕ) → WritesTo (take (n * row_words) table) k buffer answer after → length file + 5 ≤ length buffer
    → let again = file_of (take (n * row_words) table) k in (answer ≡ Ok (length again)) × (after ≡ over again buffer) × ((again ≡ file) ↔ (headed file ≡ true))
write_what_was_read file room n k table bytes r buffer answer after w h =
    let rows = take (n * row_words) table in
    let read = rows_read file room n k table r in
    let means = read.means in
    let short : length (file_of rows k) ≤ length buffer =
    by_cases (headed file)
    (λ t. omega (arith, ap length (headed_same_bytes file rows k bytes means t)))
    (λ t. omega (arith, headless_five_more file rows k bytes means t)) in
    let granted_all = all_fine rows k (length buffer) read.not_refused read.few short in (
      w.answers ∙ ap (λ (c : Check). granted c (length (file_of rows k))) granted_all,
      w.fills ∙ ap (λ (c : Check). written c (file_of rows k) buffer) granted_all,
      same_bytes_iff_headed file rows k bytes means,
    )
