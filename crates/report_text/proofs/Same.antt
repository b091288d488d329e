-- Two reports on the same input are equal, but for the pattern: every line but the last is given by the definitions, and a sound table has no pattern line.
-- Assumes nothing.
use Prim.Native.Nat.{ℕ, min}
use mathlib.Core.Path.{◌≡◌, sym, ap, ◌∙◌}
use mathlib.Core.Bool.{Bool, true, false}
use mathlib.Core.List.{List}
use lib.ListN.{length}
use lib.Dec.{ltb}
use Rattle.frame.specs.Latest.{latest, verdict}
use Rattle.frame.specs.Delays.{fault_free}
use Rattle.frame.specs.declared.Verdict.TheVariants.{Sound}
use Rattle.jobfile.specs.Meaning.{Meaning, holds, refused, meaning}
use Rattle.text.specs.Text.{most_bytes, laid}
use Rattle.report_text.specs.Report.{lines, Judges, Says, Reports}

-- an input whose report has no pattern line
abbrev pub NoPattern : Bool → Meaning → Type 0
NoPattern true m = Unit
NoPattern false (refused r) = Unit
NoPattern false (holds table k) = verdict table k ≡ Sound

says_same : (long : Bool) (m : Meaning) (t u : List ℕ) → NoPattern long m → Says long m t → Says long m u → t ≡ u
says_same true m t u n x y = x ∙ sym y
says_same false (refused r) t u n x y = x ∙ sym y
says_same false (holds table k) t u n x y = (rw n at x.reads) ∙ sym (rw n at y.reads)

-- with the same pattern the same text
pub judges_same : (table : List ℕ) (k : ℕ) (t u : List ℕ) (x : Judges table k t) (y : Judges table k u) → x.pattern ≡ y.pattern → t ≡ u
judges_same table k t u x y e =
    x.reads ∙ ap (lines table k (verdict table k) (fault_free table) (latest table k)) e ∙ sym y.reads

pub report_same : (file before : List ℕ) (a b : ℕ) (t u : List ℕ) → NoPattern (ltb most_bytes (length file)) (meaning file) → Reports file before a t → Reports file before b u
    → (a ≡ b) × (t ≡ u)
report_same file before a b t u n x y =
    let same = says_same (ltb most_bytes (length file)) (meaning file) x.text y.text n x.says y.says in (
      x.answers ∙ ap (λ s. min (length s) (length before)) same ∙ sym y.answers,
      x.fills ∙ ap (λ s. laid s before) same ∙ sym y.fills,
    )
