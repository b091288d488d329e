-- The promise of the report in each of its three cases: an input that is too long, a file that is refused, a file that holds a table. What was read is the
-- file's meaning, since 64 jobs fit the table buffer, so that 26 never comes. Assumes nothing.
use Prim.Native.Nat.{ℕ, ◌*◌, ◌≤◌, ◌<◌}
use native.Mathlib.Omega.{arith}
use mathlib.Core.Path.{◌≡◌}
use mathlib.Core.List.{List}
use lib.ListN.{length, take, replicate}
use lib.Dec.{ltb, lit≤}
use borrow.Author.Tests.{ltb-false, le-ltb, lt-ltb}
use Rattle.jobs.specs.Table.{row_words}
use Rattle.jobs.specs.Refusals.{fine, first, table_refusals}
use Rattle.jobs.specs.declared.refusal.Refusal.{Refusal}
use Rattle.jobs.specs.declared.refusal.Reason.TheVariants.{TooManyFaults}
use Rattle.std.specs.Prelude.{Result, Err}
use Rattle.jobs.proofs.Refusals.{not-given}
use Rattle.jobfile.specs.Meaning.{meaning, contents, ReadsTo}
use Rattle.jobfile.specs.declared.Contents.{Contents}
use Rattle.jobfile_laws.proofs.Promises.{RowsRead, rows_read, refusal_read}
use Rattle.text.specs.Text.{refusal, too_long, most_bytes}
use Rattle.text.specs.Growing.{Begins, Puts}
use Rattle.text.specs.declared.Text.{Text}
use Rattle.std.specs.Borrow.{MutBor}
use Rattle.report_text.specs.Report.{Says, Judges, Reports}
use Rattle.report_text.specs.Writing.{Writes}
use Rattle.text.proofs.Adding.{adds-all}
use Rattle.text.proofs.Growing.{puts_all}

-- the texts that may be put for an input
abbrev Allowed : List ℕ → List ℕ → Type 0
Allowed file = Says (ltb most_bytes (length file)) (meaning file)

module _ (file : List ℕ) where
  pub reports_too_long : {t u : Text} → most_bytes < length file → Puts too_long t u → Writes (Allowed file) t u
  reports_too_long l put = record { piece = too_long; is = rw (lt-ltb most_bytes (length file) l); put = put }

  module _ (short : length file ≤ most_bytes) (answer : Result Contents Refusal) (table : List ℕ) (read : ReadsTo file (replicate 256 0) answer table) where
    pub reports_refused : (r : Refusal) → answer ≡ Err r → {t u : Text} → Puts (refusal r) t u → Writes (Allowed file) t u
    reports_refused r e put =
        let means = refusal_read file (replicate 256 0) r table (lit≤ tt) (rw e at read) in
        record { piece = refusal r; is = rw (le-ltb most_bytes (length file) short, means); put = put }

    module _ (n k : ℕ) (e : answer ≡ contents n k) where
      rows : RowsRead file n k table
      rows = rows_read file (replicate 256 0) n k table (rw e at read)

      pub good_table : (first (table_refusals (take (n * row_words) table)) ≡ fine) × (k < 9)
      good_table = let faults : k ≤ 8 = ltb-false 8 k (not-given _ TooManyFaults 0 rows.few) in (rows.not_refused, omega arith)

      pub reports_judged : {t u : Text} → Writes (Judges (take (n * row_words) table) k) t u → Writes (Allowed file) t u
      reports_judged w = record { piece = w.piece; is = rw (le-ltb most_bytes (length file) short, rows.means) w.is; put = w.put }

-- what was put from the start of the lent buffer is the report
pub reports_all : (file : List ℕ) {buffer : MutBor (List ℕ)} {t u : Text} → Begins buffer t → Writes (Allowed file) t u → Reports file buffer.now u.at u.buffer.now
reports_all file {buffer} {t} {u} none w =
    let all = adds-all w.piece buffer.now u.buffer.now u.at (puts_all none w.put) in
    record { text = w.piece; says = w.is; answers = all.1; fills = all.0 }
