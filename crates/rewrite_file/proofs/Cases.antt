-- Worked files, proved of the definitions by computing: 01's case 14 with and without its head and its last byte, and no bytes. Assumes nothing.
use Prim.Native.Nat.{ℕ}
use lib.Chars.{codes}
use mathlib.Core.Path.{◌≡◌, refl}
use mathlib.Core.List.{[], ◌++◌}
use lib.ListN.{take}
use Rattle.jobs.specs.Below.{some, least}
use Rattle.text.specs.Text.{places, decimal}
use Rattle.jobfile.specs.Bytes.{number, words}
use Rattle.jobfile.specs.Meaning.{head_at, job_at, by_kind, record_at, walk}
use Rattle.jobfile_write.specs.Writing.{bytes_of, head_bytes}
use Rattle.jobfile_laws.proofs.Cases.{head, job}
use Rattle.rewrite_file.specs.Rewriting.{rewritten}

-- what computes in the cases
worked : ℕ
unfolding some least places decimal number words head_at job_at by_kind record_at walk bytes_of head_bytes rewritten
worked = 0

-- A missing head becomes a head of 1.
pub headless : rewritten (job ++ job) ≡ head 1 ++ job ++ job
unfolding worked
headless = refl

-- Other files stay, with any k.
pub headed_stay : (rewritten (head 2 ++ job) ≡ head 2 ++ job) × (rewritten (head 1 ++ job) ≡ head 1 ++ job) × (rewritten (head 8) ≡ head 8)
unfolding worked
headed_stay = (refl, refl, refl)

-- No bytes: no jobs, by the old rule with k 1.
pub nothing : rewritten [] ≡ head 1
unfolding worked
nothing = refl

-- A refused file gets the report's line.
pub refused_so : (rewritten (take 24 (head 2 ++ job)) ≡ codes "refused 20 at 5\n") × (rewritten (job ++ head 1) ≡ codes "refused 23 at 20\n") × (rewritten (head 9) ≡ codes "refused 25 at 0\n")
unfolding worked
refused_so = (refl, refl, refl)
