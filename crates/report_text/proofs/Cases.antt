-- 01's worked reports, proved of the definitions by computing. Assumes nothing.
use Prim.Native.Nat.{ℕ}
use lib.Chars.{codes}
use mathlib.Core.Path.{◌≡◌, refl}
use mathlib.Core.List.{List, [], ◌∷◌}
use Rattle.jobs.specs.Below.{total, count, greatest, some, least}
use Rattle.jobs.specs.Urgency.{by_key, urgent}
use Rattle.frame.specs.Schedule.{need, foremost, waits, runs, had, horizon, finish, no_faults}
use Rattle.frame.specs.Latest.{over_patterns, latest, margin, negative, named, verdict}
use Rattle.frame.specs.Delays.{fault_free}
use Rattle.text.specs.Text.{places, decimal, each}
use Rattle.report_text.specs.Report.{lines}

-- what computes in the cases
worked : ℕ
unfolding total count greatest some least by_key urgent need foremost waits runs had horizon finish no_faults over_patterns latest margin negative named verdict fault_free places decimal each
worked = 0

-- Case 7: the report.
pub case_7 : let table : List ℕ = 0 ∷ 3 ∷ 20 ∷ 2 ∷ 4 ∷ 1 ∷ 14 ∷ 5 ∷ [] in lines table 2 (verdict table 2) (fault_free table) (latest table 2) (0 ∷ 2 ∷ [])
    ≡ codes "k 2 jobs 2 miss 1\n0 3 11 9\n1 5 15 -1\npattern 0 2\n"
unfolding worked
case_7 = refl

-- Case 2: sound, the word alone, and no pattern line.
pub case_2 : let table : List ℕ = 0 ∷ 2 ∷ 4 ∷ 1 ∷ [] in lines table 2 (verdict table 2) (fault_free table) (latest table 2) (0 ∷ [])
    ≡ codes "k 2 jobs 1 sound\n0 2 4 0\n"
unfolding worked
case_2 = refl
