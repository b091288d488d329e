-- A text grows in a buffer piece by piece: nothing, as much of a piece as there is room for, one piece after another, and nothing more where the buffer is full.
-- One piece after another is the two laid over the buffer as one, since the second goes where the first ends, or the buffer does.
-- Assumes nothing.
use Prim.Native.Nat.{ℕ, zero, suc, ◌+◌, ◌-◌, ◌≤◌, min}
use native.Mathlib.Omega.{arith}
use mathlib.Core.Path.{◌≡◌, refl, sym, ap, ◌∙◌}
use mathlib.Core.List.{List, [], ◌∷◌, ◌++◌}
use lib.ListN.{length, take, drop, length-append, take-append-drop, length-drop}
use borrow.Rule.Slice.PartMut.{put_mid}
use lib.Seq.{take_all, take-nil, drop-nil}
use Rattle.text.specs.Text.{laid, Adds}

-- ---- a text laid over a buffer

laid_nowhere : (text : List ℕ) → laid text [] ≡ []
unfolding laid
laid_nowhere [] = refl
laid_nowhere (b ∷ text) = refl

laid-length : (text buffer : List ℕ) → length (laid text buffer) ≡ length buffer
unfolding laid
laid-length [] buffer = refl
laid-length (b ∷ text) [] = refl
laid-length (b ∷ text) (old ∷ buffer) = ap suc (laid-length text buffer)

-- what there is room for, and then the rest of the buffer
laid_min : (text buffer : List ℕ) (n : ℕ) → n ≡ min (length text) (length buffer) → laid text buffer ≡ take n text ++ drop n buffer
unfolding laid
laid_min [] buffer zero e = refl
laid_min [] buffer (suc n) e = absurd (omega arith)
laid_min (b ∷ text) [] zero e = refl
laid_min (b ∷ text) [] (suc n) e = absurd (omega arith)
laid_min (b ∷ text) (old ∷ buffer) zero e = absurd (omega arith)
laid_min (b ∷ text) (old ∷ buffer) (suc n) e = ap (λ rest. b ∷ rest) (laid_min text buffer n (omega arith))

-- a text that fits is laid whole
pub laid_whole : (text buffer : List ℕ) → length text ≤ length buffer → laid text buffer ≡ text ++ drop (length text) buffer
laid_whole text buffer l = laid_min text buffer (length text) (omega arith) ∙ ap (λ t. t ++ drop (length text) buffer) (take_all (length text) text (omega arith))

-- one text after another, from where the first or the buffer ends
laid_then : (p q b : List ℕ) (m : ℕ) → m ≡ min (length p) (length b) → take m (laid p b) ++ laid q (drop m (laid p b)) ≡ laid (p ++ q) b
unfolding laid
laid_then [] q b zero e = refl
laid_then [] q b (suc m) e = absurd (omega arith)
laid_then (x ∷ p) q [] zero e = laid_nowhere q
laid_then (x ∷ p) q [] (suc m) e = absurd (omega arith)
laid_then (x ∷ p) q (old ∷ b) zero e = absurd (omega arith)
laid_then (x ∷ p) q (old ∷ b) (suc m) e = ap (λ rest. x ∷ rest) (laid_then p q b m (omega arith))

-- a piece added to a buffer, and one after another
abbrev put : List ℕ → List ℕ → ℕ → List ℕ
put piece buffer at = take at buffer ++ laid piece (drop at buffer)

put-length : (p b : List ℕ) (at : ℕ) → length (put p b at) ≡ length b
put-length p b at =
    length-append (take at b) (laid p (drop at b)) ∙ ap (λ m. length (take at b) + m) (laid-length p (drop at b)) ∙ sym (length-append (take at b) (drop at b)) ∙ ap length (take-append-drop at b)

put_then : (p q b : List ℕ) (at m : ℕ) → m ≡ at + min (length p) (length b - at) → put q (put p b at) m ≡ put (p ++ q) b at
put_then p q b zero m e = laid_then p q b m (omega arith)
put_then p q [] (suc at) m e = rw (laid_nowhere p, laid_nowhere (p ++ q), take-nil m, drop-nil m) (laid_nowhere q)
put_then p q (old ∷ b) (suc at) zero e = absurd (omega arith)
put_then p q (old ∷ b) (suc at) (suc m) e = ap (λ rest. old ∷ rest) (put_then p q b at m (omega arith))

-- ---- pieces

pub adds_none : (buffer : List ℕ) (at : ℕ) → Adds [] buffer at buffer at
unfolding laid
adds_none buffer at = record { lies = sym (take-append-drop at buffer); next = omega arith }

pub adds_same : (p q b : List ℕ) (at : ℕ) (b' : List ℕ) (at' : ℕ) → p ≡ q → Adds p b at b' at' → Adds q b at b' at'
adds_same p q b at b' at' e a = rw (← e) a

pub adds_then : (p q b : List ℕ) (at : ℕ) (b' : List ℕ) (at' : ℕ) (b'' : List ℕ) (at'' : ℕ) → Adds p b at b' at' → Adds q b' at' b'' at'' → Adds (p ++ q) b at b'' at''
adds_then p q b at b' at' b'' at'' one other =
    record {
      lies = other.lies ∙ ap (λ l. put q l at') one.lies ∙ put_then p q b at at' one.next;
      next = omega (arith, one.next, other.next, length-append p q, ap length one.lies ∙ put-length p b at);
    }

-- as much of a piece as there is room for, copied over a part of the buffer
pub adds_part : (piece buffer part : List ℕ) (at n : ℕ) → at ≤ length buffer → n ≡ min (length piece) (length buffer - at) → part ≡ take n piece
    → Adds piece buffer at (put_mid at (at + n - at) buffer part) (at + n)
adds_part piece buffer part at n l e h =
    let moved : at + n - at ≡ n = omega arith in
    let room : length (drop at buffer) ≡ length buffer - at = length-drop at buffer in
    record {
      lies = rw (moved, h) (ap (λ rest. take at buffer ++ rest) (sym (laid_min piece (drop at buffer) n (omega (arith, room, e)))));
      next = omega (arith, e);
    }

-- where there is no room, nothing
pub adds_no_more : (piece buffer : List ℕ) (at : ℕ) → min (length piece) (length buffer - at) ≡ 0 → Adds piece buffer at buffer at
adds_no_more piece buffer at e =
    let room : length (drop at buffer) ≡ length buffer - at = length-drop at buffer in
    record {
      lies = sym (ap (λ rest. take at buffer ++ rest) (laid_min piece (drop at buffer) 0 (omega (arith, room, e))) ∙ take-append-drop at buffer);
      next = omega (arith, e);
    }

-- from the start of the buffer
pub adds-all : (text old buffer : List ℕ) (at : ℕ) → Adds text old 0 buffer at → (buffer ≡ laid text old) × (at ≡ min (length text) (length old))
adds-all text old buffer at a = (a.lies, omega (arith, a.next))

-- a promise allows one result
pub adds_once : (p b : List ℕ) (at : ℕ) (b' b'' : List ℕ) (r s : ℕ) → Adds p b at b' r → Adds p b at b'' s → (b' ≡ b'') × (r ≡ s)
adds_once p b at b' b'' r s x y = (x.lies ∙ sym y.lies, x.next ∙ sym y.next)
