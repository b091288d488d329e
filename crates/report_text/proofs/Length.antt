-- No report is longer than 2,048 bytes, so that a buffer of so many holds every report whole.
--
-- The first line has at most 20 bytes, a job's line 28, since no finish exceeds 8,200,000, and the pattern line 8 and 2 for each of at most 64 jobs: 1,948 in
-- all. A refusal has a number of two digits and an offset of five. Assumes nothing.
use Prim.Native.Nat.{ℕ, ◌-◌, ◌≤◌, ◌<◌}
use native.Mathlib.Omega.{arith}
use mathlib.Core.Path.{◌≡◌, refl, ap, ◌∙◌}
use mathlib.Core.Bool.{false}
use mathlib.Core.List.{List}
use lib.ListN.{length, get_or, drop, get_or-append}
use lib.IntN.{sub_ℕ}
use lib.Dec.{ltb, lit≤, lit<}
use borrow.Author.Tests.{ltb-true, ltb-false}
use Rattle.jobs.specs.Table.{jobs, deadline}
use Rattle.jobs.specs.declared.refusal.Reason.TheVariants.{TooManyFaults}
use Rattle.jobs.proofs.Below.{by_cases}
use Rattle.jobs.proofs.Refusals.{Good, good, not-given}
use Rattle.frame.specs.Latest.{latest, verdict}
use Rattle.frame.specs.Schedule.{no_faults}
use Rattle.frame.specs.Delays.{fault_free}
use Rattle.frame.specs.declared.Verdict.{Verdict}
use Rattle.frame.specs.declared.Verdict.TheVariants.{Sound, Miss}
use Rattle.frame.proofs.Bounds.{count_at_most, finish_at_most, latest_at_most}
use Rattle.frame.proofs.Verdicts.{miss_names}
use Rattle.schedule.proofs.FaultFree.{zeros_few}
use Rattle.judge.specs.Asks.{HandedFor}
use Rattle.jobfile.specs.Bytes.{over}
use Rattle.jobfile.specs.Meaning.{Meaning, holds, refused, meaning}
use Rattle.jobfile_laws.proofs.SameBytes.{read_table_fine, read_faults_fine}
use Rattle.jobfile_laws.proofs.Refused.{refused_in_file}
use Rattle.text.specs.Text.{too_long, decimal, labelled, signed, most_bytes}
use Rattle.report_text.specs.Report.{verdict_text, first_line, job_line, job_lines, pattern_line, Judges, Says, Reports}
use Rattle.text.proofs.Adding.{laid_whole}
use Rattle.text.proofs.Digits.{signed_above, signed_below}
use Rattle.text.proofs.Lengths.{Short, word, then, each_short, number_short, label_short, refusal_short}

-- ---- the lines on a table

margin_short : (due late : ℕ) → due ≤ 10000000 → late ≤ 8200000 → Short (signed (sub_ℕ due late)) 8
margin_short due late l h =
    by_cases (ltb due late)
    (λ e. rw (signed_below due late (ltb-true due late e)) (label_short "-" (late - due) 6 (lit< tt) (omega arith)))
    (λ e. rw (signed_above due late (ltb-false due late e)) (number_short (due - late) 7 (lit< tt) (omega arith)))

module _ (table : List ℕ) (g : Good table) (k : ℕ) (few : k ≤ 8) where
  job_digits : (job : ℕ) → job < jobs table → Short (decimal job) 2
  job_digits job l = number_short job 1 (lit< tt) (omega (arith, g.few_jobs))

  early_at_most : (job : ℕ) → job < jobs table → fault_free table job ≤ 8200000
  unfolding fault_free
  early_at_most job l = finish_at_most table (no_faults table) g 0 (omega arith) (zeros_few table) job l

  finish_short : (time : ℕ) → time ≤ 8200000 → Short (labelled " " time) 8
  finish_short time l = label_short " " time 6 (lit< tt) (omega arith)

  line_short : (job : ℕ) → job < jobs table → Short (job_line job (fault_free table job) (latest table k job) (sub_ℕ (deadline table job) (latest table k job))) 28
  line_short job l =
      let late = latest_at_most table g k few job l in
      let finishes = then (then (job_digits job l) (finish_short (fault_free table job) (early_at_most job l))) (finish_short (latest table k job) late) in
      let margin = margin_short (deadline table job) (latest table k job) (g.deadline_at_most job l) late in
      then (then (then finishes (word " ")) margin) (word "\n")

  lines_short : Short (job_lines table (fault_free table) (latest table k) (jobs table)) 1792
  lines_short = each_short (jobs table) _ 28 64 line_short g.few_jobs

  verdict_short : (v : Verdict) → verdict table k ≡ v → Short (verdict_text v) 8
  verdict_short Sound e = record { few = lit≤ tt }
  verdict_short (Miss job time) e = then (word " miss ") (job_digits job.0 (miss_names table k job.0 time e).most.is_job)

  first_short : Short (first_line k (jobs table) (verdict table k)) 20
  first_short =
      let faults = label_short "k " k 0 (lit< tt) (omega arith) in
      let count = label_short " jobs " (jobs table) 1 (lit< tt) (omega (arith, g.few_jobs)) in
      then (then (then faults count) (verdict_short (verdict table k) refl)) (word "\n")

  pattern_short : (v : Verdict) (buffer pattern : List ℕ) → HandedFor table k v buffer pattern → Short (pattern_line (jobs table) v pattern) 136
  pattern_short Sound buffer pattern h = record { few = lit≤ tt }
  pattern_short (Miss job time) buffer pattern h =
      then (then (word "pattern") (each_short (jobs table) (λ i. labelled " " (get_or pattern i 0)) 2 64 count g.few_jobs)) (word "\n")
    where
      count : (i : ℕ) → i < jobs table → Short (labelled " " (get_or pattern i 0)) 2
      count i l =
          let same : get_or pattern i 0 ≡ get_or h.pattern i 0 =
          ap (λ p. get_or p i 0) h.fills ∙ get_or-append h.pattern (drop (jobs table) buffer) 0 i (omega (arith, h.at_most.long)) in
          label_short " " (get_or pattern i 0) 0 (lit< tt) (omega (arith, count_at_most h.pattern (jobs table) k h.at_most i l))

  judged_short : (text : List ℕ) → Judges table k text → length text ≤ 2048
  judged_short text j =
      let all = then (then first_short lines_short) (pattern_short (verdict table k) j.buffer j.pattern j.handed) in
      omega (arith, ap length j.reads, all.few)

-- ---- every report

says_short : (file : List ℕ) (m : Meaning) → meaning file ≡ m → (text : List ℕ) → length file ≤ most_bytes → Says false m text → length text ≤ 2048
says_short file (refused r) e text l s =
    let inside = refused_in_file file r e in
    omega (arith, ap length s, (refusal_short r (omega (arith, inside.high)) (omega (arith, inside.inside))).few)
says_short file (holds table k) e text l s =
    judged_short table (good table (read_table_fine file table k e)) k (ltb-false 8 k (not-given _ TooManyFaults 0 (read_faults_fine file table k e))) text s

pub report_short : (file text : List ℕ) → Says (ltb most_bytes (length file)) (meaning file) text → length text ≤ 2048
report_short file text s =
    by_cases (ltb most_bytes (length file))
    (λ e. let long : text ≡ too_long = rw e at s in omega (arith, ap length long))
    (λ e. says_short file (meaning file) refl text (ltb-false most_bytes (length file) e) (rw e at s))

-- A buffer of 2,048 bytes holds the whole report.
pub report_whole : (file before : List ℕ) (answer : ℕ) (after : List ℕ) → 2048 ≤ length before → (r : Reports file before answer after)
    → (answer ≡ length r.text) × (after ≡ over r.text before)
report_whole file before answer after l r =
    let short = report_short file r.text r.says in
    (omega (arith, r.answers), r.fills ∙ laid_whole r.text before (omega arith))
