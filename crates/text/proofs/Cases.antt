-- Worked pieces, proved of the definitions by computing. Assumes nothing.
use Prim.Native.Nat.{ℕ}
use lib.Chars.{codes}
use mathlib.Core.Path.{◌≡◌, refl}
use lib.IntN.{sub_ℕ}
use Rattle.jobs.specs.Below.{least}
use Rattle.jobs.specs.Refusals.{refused}
use Rattle.jobs.specs.declared.refusal.Reason.TheVariants.{CutRecord}
use Rattle.text.specs.Text.{places, decimal, signed, refusal, laid}

-- what computes in the cases
worked : ℕ
unfolding least places decimal laid
worked = 0

-- 01's refusal: case 14 without its last byte.
pub case_14 : refusal (refused CutRecord 5) ≡ codes "refused 20 at 5\n"
unfolding worked
case_14 = refl

-- Numbers of one digit and of more, and below zero.
pub numbers : (decimal 0 ≡ codes "0") × (decimal 9 ≡ codes "9") × (decimal 10 ≡ codes "10") × (decimal 8200000 ≡ codes "8200000") × (signed (sub_ℕ 0 8200000) ≡ codes "-8200000")
unfolding worked
numbers = (refl, refl, refl, refl, refl)

-- A text in a buffer that has room for it, and in one that has not.
pub laid_so : (laid (codes "10") (codes "abc") ≡ codes "10c") × (laid (codes "1000") (codes "abc") ≡ codes "100")
unfolding worked
laid_so = (refl, refl)
