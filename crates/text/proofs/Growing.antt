-- A text grows by one piece after another: by nothing, by two pieces as by one, and by the first pieces of many. Assumes nothing.
use Prim.Native.Nat.{ℕ, ◌+◌}
use native.Mathlib.Numerals.{add-one}
use mathlib.Core.Path.{◌≡◌, refl, sym, ap, ◌∙◌}
use mathlib.Core.List.{List, [], ◌++◌}
use Rattle.std.specs.Borrow.{MutBor}
use Rattle.text.specs.Text.{each, Adds}
use Rattle.text.specs.Growing.{Begins, Puts}
use Rattle.text.specs.declared.Text.{Text}
use Rattle.text.proofs.Adding.{adds_none, adds_then, adds_same}

pub puts_none : {s : Text} → Puts [] s s
puts_none {s} = record { same_buffer = refl; added = adds_none s.buffer.now s.at }

pub puts_same : {p q : List ℕ} {s t : Text} → p ≡ q → Puts p s t → Puts q s t
puts_same {p} {q} e one = record { same_buffer = one.same_buffer; added = adds_same p q _ _ _ _ e one.added }

pub puts_then : {p q : List ℕ} {s t u : Text} → Puts p s t → Puts q t u → Puts (p ++ q) s u
puts_then {p} {q} one other =
    record { same_buffer = other.same_buffer ∙ one.same_buffer; added = adds_then p q _ _ _ _ _ _ one.added other.added }

-- what is put from the start of the lent buffer
pub puts_all : {p : List ℕ} {buffer : MutBor (List ℕ)} {s t : Text} → Begins buffer s → Puts p s t → Adds p buffer.now 0 t.buffer.now t.at
puts_all none one = rw (none.untouched, none.empty) at one.added

-- the first pieces, one after the other
pub each_none : (piece : ℕ → List ℕ) {s : Text} → Puts (each 0 piece) s s
unfolding each
each_none piece = puts_none

pub each_more : (piece : ℕ → List ℕ) (i : ℕ) {s t u : Text} → Puts (each i piece) s t → Puts (piece i) t u → Puts (each (i + 1) piece) s u
unfolding each
each_more piece i one other = puts_same (ap (λ j. each j piece) (sym (add-one i))) (puts_then one other)
