-- What the judge and the reader answer goes into the report: the judge does not refuse a good table with room for 64 jobs, so its verdict, finishes
-- and pattern are those of the definitions; and the rows that were read are the file's table. Assumes nothing.
use Prim.Native.Nat.{ℕ, zero, suc, ◌≤◌, ◌<◌}
use native.Mathlib.Omega.{arith}
use mathlib.Core.Path.{◌≡◌, refl, ap, ◌∙◌}
use mathlib.Core.List.{List, ◌++◌}
use lib.ListN.{get_or, replicate}
use lib.IntN.{sub_ℕ}
use borrow.Author.Tests.{le-ltb}
use Rattle.std.specs.Prelude.{Result, Ok}
use Rattle.jobs.specs.Table.{jobs, deadline}
use Rattle.jobs.specs.Arrays.{values}
use Rattle.jobs.specs.Refusals.{fine, first, table_refusals}
use Rattle.jobs.specs.declared.refusal.Refusal.{Refusal}
use Rattle.jobs.proofs.Refusals.{good}
use Rattle.frame.specs.Latest.{latest, verdict}
use Rattle.frame.specs.Delays.{fault_free}
use Rattle.frame.specs.declared.Verdict.{Verdict}
use Rattle.schedule.specs.Asks.{fill, fault_free_finishes}
use Rattle.schedule.proofs.Fill.{fill_at}
use Rattle.judge.specs.Asks.{judge_refusals, Judging, HandedFor}
use Rattle.judge.proofs.Answers.{judge_refusals_lem}
use Rattle.text.specs.Text.{each}
use Rattle.text.specs.Growing.{Puts}
use Rattle.text.specs.declared.Text.{Text}
use Rattle.report_text.specs.Report.{job_line, job_lines, pattern_line, first_line, lines, Judges}
use Rattle.report_text.specs.Writing.{Writes}

each_same : (n : ℕ) (p q : ℕ → List ℕ) → ((i : ℕ) → i < n → p i ≡ q i) → each n p ≡ each n q
unfolding each
each_same zero p q h = refl
each_same (suc n) p q h = let e = each_same n p q (λ i l. h i (omega arith)) in let f = h n (omega arith) in cc

module _ (table : List ℕ) (k : ℕ) (is_good : first (table_refusals table) ≡ fine) (few : k < 9) where
  few_jobs : jobs table ≤ 64
  few_jobs = (good table is_good).few_jobs

  accepted : first (judge_refusals table k 64 64) ≡ fine
  accepted = judge_refusals_lem table k 64 64 ∙ rw (is_good, le-ltb 8 k (omega arith), le-ltb 64 (jobs table) few_jobs)

  module _ (late pattern : List ℕ) (answer : Result Verdict Refusal) (j : Judging table k (replicate 64 0) late (replicate 64 0) pattern answer) where
    answers : answer ≡ Ok (verdict table k)
    answers = rw accepted at j.answers

    late_is : late ≡ fill (jobs table) (latest table k) (replicate 64 0)
    late_is = rw accepted at j.fills

    handed : HandedFor table k (verdict table k) (replicate 64 0) pattern
    handed = rw accepted at j.hands

    pub judged_writes : (v : Verdict) → answer ≡ Ok v → (early : List ℕ) → early ≡ fault_free_finishes table → {t u : Text}
        → Puts (lines table k v (values early) (values late) pattern) t u → Writes (Judges table k) t u
    judged_writes v e early f puts =
        record {
          piece = lines table k v (values early) (values late) pattern;
          is = record { buffer = replicate 64 0; pattern = pattern; handed = handed; reads = same };
          put = puts;
        }
      where
        named : v ≡ verdict table k
        named = let x = answers in cc

        early_is : early ≡ fill (jobs table) (fault_free table) (replicate 64 0)
        early_is = rw is_good at f

        line : (i : ℕ) → i < jobs table
            → job_line i (get_or early i 0) (get_or late i 0) (sub_ℕ (deadline table i) (get_or late i 0)) ≡ job_line i (fault_free table i) (latest table k i) (sub_ℕ (deadline table i) (latest table k i))
        line i l =
            let x : get_or early i 0 ≡ fault_free table i = rw early_is (fill_at (fault_free table) (replicate 64 0) (jobs table) i l) in
            let y : get_or late i 0 ≡ latest table k i = rw late_is (fill_at (latest table k) (replicate 64 0) (jobs table) i l) in
            rw (x, y)

        same : lines table k v (values early) (values late) pattern ≡ lines table k (verdict table k) (fault_free table) (latest table k) pattern
        same =
            ap (λ x. first_line k (jobs table) v ++ x ++ pattern_line (jobs table) v pattern) (each_same (jobs table) _ _ line)
            ∙ ap (λ x. first_line k (jobs table) x ++ job_lines table (fault_free table) (latest table k) (jobs table) ++ pattern_line (jobs table) x pattern) named
