-- Laws of the promises of judge and pattern of one job.
--
-- In order: the refusals taken apart; a pattern that is handed out; the judge's promise where nothing is refused; that two results which a promise
-- allows are equal, the pattern's buffer too unless a pattern is handed out. Assumes nothing.
use Prim.Native.Nat.{ℕ, zero, suc, ◌≤◌, ◌<◌}
use native.Mathlib.Omega.{arith}
use mathlib.Core.Path.{◌≡◌, refl, sym, ap, ◌∙◌}
use mathlib.Core.List.{List, ◌++◌}
use lib.ListN.{length, get_or, take, drop, length-take}
use lib.Seq.{ext_get_or}
use borrow.Author.Tests.{ltb-true, ltb-false, not-false}
use Rattle.std.proofs.lemmas.List.{get_or-take}
use Rattle.std.specs.Prelude.{Result, Ok, Err}
use Rattle.jobs.specs.Below.{listed}
use Rattle.jobs.specs.Table.{jobs}
use Rattle.jobs.specs.Refusals.{Check, fine, after, first, table_refusals, too_many_faults}
use Rattle.jobs.specs.Arrays.{values}
use Rattle.jobs.specs.declared.Job.{Job}
use Rattle.jobs.specs.declared.refusal.Reason.TheVariants.{TooManyFaults, NoSuchJob, WrongPattern}
use Rattle.jobs.specs.declared.refusal.Refusal.{Refusal}
use Rattle.jobs.proofs.Below.{length-listed, get_or-listed}
use Rattle.jobs.proofs.Refusals.{good, not-given, after_fine}
use Rattle.frame.specs.Latest.{latest, verdict}
use Rattle.frame.specs.declared.Verdict.{Verdict}
use Rattle.frame.specs.declared.Verdict.TheVariants.{Sound, Miss}
use Rattle.frame.proofs.Verdicts.{miss_names}
use Rattle.schedule.specs.Asks.{short_buffer, fill}
use Rattle.schedule.proofs.Asks.{three_more}
use Rattle.latest.proofs.Latest.{handed_reaches}
use Rattle.judge.specs.Notes.{Unwound, CountsFor}
use Rattle.judge.specs.Asks.{short_pattern, no_such_job, judge_refusals, pattern_refusals, Unless, Handed, HandedFor, Judging, Reaching}
use Rattle.judge.proofs.Unwinding.{zeros_at}

-- ---- the refusals

pub judge_refusals_lem : (table : List ℕ) (k finishes pattern : ℕ) → first (judge_refusals table k finishes pattern)
    ≡ after (first (table_refusals table)) (after (too_many_faults k) (after (short_buffer table finishes) (short_pattern table pattern)))
judge_refusals_lem table k finishes pattern = three_more table (too_many_faults k) (short_buffer table finishes) (short_pattern table pattern)

pub pattern_refusals_lem : (table : List ℕ) (k job pattern : ℕ) → first (pattern_refusals table k job pattern)
    ≡ after (first (table_refusals table)) (after (too_many_faults k) (after (no_such_job table job) (short_pattern table pattern)))
pattern_refusals_lem table k job pattern = three_more table (too_many_faults k) (no_such_job table job) (short_pattern table pattern)

-- what the pattern of one job is handed out for
pub record AcceptedOne (table : List ℕ) (k job pattern : ℕ) : Type 0 where
  pub fine : first (table_refusals table) ≡ fine
  pub few : k < 9
  pub is_job : job < jobs table
  pub space : jobs table ≤ pattern

pub pattern_accepts : (table : List ℕ) (k job pattern : ℕ) → first (pattern_refusals table k job pattern) ≡ fine → AcceptedOne table k job pattern
pattern_accepts table k job pattern is_good =
    let a = after_fine (first (table_refusals table)) _ (sym (pattern_refusals_lem table k job pattern) ∙ is_good) in
    let b = after_fine (too_many_faults k) _ a.1 in
    let c = after_fine (no_such_job table job) _ b.1 in
    let few : k ≤ 8 = ltb-false _ _ (not-given _ TooManyFaults 0 b.0) in
    record {
      fine = a.0;
      few = omega arith;
      is_job = ltb-true _ _ (not-false _ (not-given _ NoSuchJob 0 c.0));
      space = ltb-false _ _ (not-given _ WrongPattern (jobs table) c.1);
    }

-- a table that is not refused has at most 64 jobs
pub few_jobs : (table : List ℕ) (n : ℕ) → first (table_refusals table) ≡ fine → n ≡ jobs table → n ≤ 64
few_jobs table n is_good e = omega (arith, (good table is_good).few_jobs)

-- ---- a pattern that is handed out

pub counts_handed : (table : List ℕ) (k job : ℕ) (counts before after : List ℕ) → first (table_refusals table) ≡ fine → job < jobs table → Unwound table k job counts
    → after ≡ fill (jobs table) (values counts) before → Handed table k job before after
unfolding fill
counts_handed table k job counts before after is_good l u f =
    let handed = handed_reaches table k job (good table is_good) l (listed (jobs table) (values counts)) (length-listed (jobs table) (values counts))
    (λ i m. get_or-listed (jobs table) (values counts) 0 i m ∙ u.each i m) in
    record { pattern = listed (jobs table) (values counts); at_most = handed.0; reaches = handed.1; fills = f }

-- the named job of a miss is a job of the table
pub named_below : (table : List ℕ) (k : ℕ) (v : Verdict) (job : Job) (time : ℕ) → v ≡ verdict table k → v ≡ Miss job time → job.0 < jobs table
named_below table k v job time e f = (miss_names table k job.0 time (sym e ∙ f)).most.is_job

listed_same : (n : ℕ) (f g : ℕ → ℕ) → ((i : ℕ) → i < n → f i ≡ g i) → listed n f ≡ listed n g
unfolding listed
listed_same zero f g h = refl
listed_same (suc n) f g h = rw (listed_same n f g (λ i l. h i (omega arith)), h n (omega arith))

-- the first n words of an array, as the list of its values
pub take_listed : (xs : List ℕ) (n : ℕ) → n ≤ length xs → take n xs ≡ listed n (values xs)
take_listed xs n l =
    ext_get_or 0 (take n xs) (listed n (values xs)) (omega (arith, length-take n xs, length-listed n (values xs)))
    (λ i m.
    let below : i < n = omega (arith, length-take n xs) in
    get_or-take n xs i 0 below ∙ sym (get_or-listed n (values xs) 0 i below))

pub fill_same : (n : ℕ) (f g : ℕ → ℕ) (buffer : List ℕ) → ((i : ℕ) → i < n → f i ≡ g i) → fill n f buffer ≡ fill n g buffer
unfolding fill
fill_same n f g buffer h = ap (λ xs. xs ++ drop n buffer) (listed_same n f g h)

pub handed_for : (table : List ℕ) (k : ℕ) (v : Verdict) (counts before after : List ℕ) → first (table_refusals table) ≡ fine → v ≡ verdict table k → CountsFor table k v counts
    → after ≡ fill (jobs table) (values counts) before → HandedFor table k v before after
handed_for table k Sound counts before after is_good e c f =
    f ∙ fill_same (jobs table) (values counts) (λ job. 0) before (λ i l. ap (λ (xs : List ℕ). get_or xs i 0) c ∙ zeros_at 64 i)
handed_for table k (Miss job time) counts before after is_good e c f =
    counts_handed table k job.0 counts before after is_good (named_below table k (Miss job time) job time e refl) c f

-- ---- the judge's promise

pub judging_fine : (table : List ℕ) (k : ℕ) (finishes pattern finishes' pattern' : List ℕ) (v : Verdict)
    → first (judge_refusals table k (length finishes) (length pattern)) ≡ fine → v ≡ verdict table k → finishes' ≡ fill (jobs table) (latest table k) finishes
    → HandedFor table k v pattern pattern' → Judging table k finishes finishes' pattern pattern' (Ok v)
judging_fine table k finishes pattern finishes' pattern' v is_good e f h = record { answers = rw is_good (ap Ok e); fills = rw is_good f; hands = rw (is_good, ← e) h }

-- ---- two results are equal

pub judge_same_answer : (table : List ℕ) (k : ℕ) (finishes pattern f p g q : List ℕ) (a b : Result Verdict Refusal)
    → Judging table k finishes f pattern p a → Judging table k finishes g pattern q b → (a ≡ b) × (f ≡ g)
judge_same_answer table k finishes pattern f p g q a b x y = (x.answers ∙ sym y.answers, x.fills ∙ sym y.fills)

pub pattern_same_answer : (table : List ℕ) (k job : ℕ) (pattern p q : List ℕ) (a b : Check)
    → Reaching table k job pattern p a → Reaching table k job pattern q b → a ≡ b
pattern_same_answer table k job pattern p q a b x y = x.answers ∙ sym y.answers

-- a refusal leaves the buffer, and sound fills it with zeros
unless_same : (table : List ℕ) (k : ℕ) (v : Verdict) (c : Check) (before p q : List ℕ) → v ≡ Sound
    → Unless c (HandedFor table k v before p) (p ≡ before) → Unless c (HandedFor table k v before q) (q ≡ before) → p ≡ q
unless_same table k v (Ok tt) before p q e x y = (rw e at x) ∙ sym (rw e at y)
unless_same table k v (Err refusal) before p q e x y = x ∙ sym y

pub judge_same_pattern : (table : List ℕ) (k : ℕ) (finishes pattern f p g q : List ℕ) (a b : Result Verdict Refusal) → verdict table k ≡ Sound
    → Judging table k finishes f pattern p a → Judging table k finishes g pattern q b → p ≡ q
judge_same_pattern table k finishes pattern f p g q a b e x y =
    unless_same table k (verdict table k) (first (judge_refusals table k (length finishes) (length pattern))) pattern p q e x.hands y.hands

-- under a refusal the pattern's buffer is as it was
pub judge_keeps_pattern : (table : List ℕ) (k : ℕ) (finishes pattern f p : List ℕ) (refusal : Refusal)
    → first (judge_refusals table k (length finishes) (length pattern)) ≡ Err refusal
    → (a : Result Verdict Refusal) → Judging table k finishes f pattern p a → p ≡ pattern
judge_keeps_pattern table k finishes pattern f p refusal e a x = rw e at x.hands

pub pattern_keeps_pattern : (table : List ℕ) (k job : ℕ) (pattern p : List ℕ) (refusal : Refusal)
    → first (pattern_refusals table k job (length pattern)) ≡ Err refusal
    → (a : Check) → Reaching table k job pattern p a → p ≡ pattern
pattern_keeps_pattern table k job pattern p refusal e a x = rw e at x.hands
