-- Laws of a list laid over the start of a buffer: its length, one element more, and a block more, lent as the rest of the buffer and come back.
-- With the list's length known, what is before the seam is the list and what is after it is the buffer's own. Assumes nothing.
use Prim.Native.Nat.{ℕ, suc, ◌+◌, ◌-◌, ◌≤◌, ◌<◌}
use native.Mathlib.Numerals.{add-one}
use native.Mathlib.Omega.{arith}
use mathlib.Core.Path.{◌≡◌, sym, ap, ◌∙◌}
use mathlib.Core.List.{List, [], ◌∷◌, ◌++◌, append_assoc, append-nil}
use lib.ListN.{length, get_or, take, drop, set, length-append, length-drop, drop_of_length-le}
use lib.Seq.{length-take-le, drop-cons, take-suc, take_all, take_at, drop_at, drop-drop, set_at}
use borrow.Rule.Slice.PartMut.{mid_of, put_mid}
use Rattle.jobfile.specs.Bytes.{over}

pub over-length : (xs t : List ℕ) → length xs ≤ length t → length (over xs t) ≡ length t
over-length xs t h = omega (arith, length-append xs (drop (length xs) t), length-drop (length xs) t)

-- the list written so far, with its length known
over_at : (xs t : List ℕ) (i : ℕ) → length xs ≡ i → over xs t ≡ xs ++ drop i t
over_at xs t i e = ap (λ (j : ℕ). xs ++ drop j t) e

pub over_one_more : (xs t : List ℕ) (i x : ℕ) → i < length xs → i < length t → get_or xs i 0 ≡ x → set (over (take i xs) t) i x ≡ over (take (i + 1) xs) t
over_one_more xs t i x h l e =
    let long : length (take i xs) ≡ i = length-take-le i xs (omega arith) in
    ap (λ (s : List ℕ). set s i x) (over_at (take i xs) t i long ∙ ap (λ (r : List ℕ). take i xs ++ r) (drop-cons t i 0 l))
    ∙ set_at (take i xs) (get_or t i 0) (drop (suc i) t) x i long
    ∙ sym
    (over_at (take (i + 1) xs) t (suc i) (length-take-le (i + 1) xs (omega arith) ∙ add-one i)
    ∙ ap (λ (p : List ℕ). p ++ drop (suc i) t) (ap (λ (j : ℕ). take j xs) (add-one i) ∙ take-suc xs i 0 h ∙ ap (λ (y : ℕ). take i xs ++ y ∷ []) e)
    ∙ append_assoc (take i xs) (x ∷ []) (drop (suc i) t))

-- the rest of the buffer, lent from `at` on
pub lent : {A : Type 0} (t : List A) (at k : ℕ) → length t ≤ at + k → mid_of at k t ≡ drop at t
lent t at k h = take_all k (drop at t) (omega (arith, length-drop at t))

-- a block laid over the rest that was lent, and come back
pub over_block : (done block t : List ℕ) (at k : ℕ) → length done ≡ at → length t ≤ at + k → length done ≤ length t
    → put_mid at k (over done t) (over block (mid_of at k (over done t))) ≡ over (done ++ block) t
over_block done block t at k e h l =
    let same : length (over done t) ≡ length t = over-length done t l in
    let rest : drop at (over done t) ≡ drop at t = drop_at done (drop (length done) t) at e ∙ ap (λ (i : ℕ). drop i t) e in
    ap (λ (m : List ℕ). put_mid at k (over done t) (over block m)) (lent (over done t) at k (omega arith) ∙ rest)
    ∙ ap (λ (r : List ℕ). take at (over done t) ++ (over block (drop at t) ++ r)) (drop_of_length-le (drop at (over done t)) {i = k} (omega (arith, length-drop at (over done t))))
    ∙ ap (λ (p : List ℕ). p ++ (over block (drop at t) ++ [])) (take_at done (drop (length done) t) at e)
    ∙ ap (λ (r : List ℕ). done ++ r) (append-nil (over block (drop at t)) ∙ ap (λ (r : List ℕ). block ++ r) (drop-drop (length block) at t))
    ∙ sym
    (over_at (done ++ block) t (at + length block) (length-append done block ∙ ap (λ (i : ℕ). i + length block) e)
    ∙ append_assoc done block (drop (at + length block) t))

-- the same where the buffer is known only to be the list over what was there
pub over_lent : (t₀ t back done block : List ℕ) (at : ℕ) → t ≡ over done t₀ → length done ≡ at → at ≤ length t₀ → back ≡ over block (mid_of at (length t - at) t)
    → put_mid at (length t - at) t back ≡ over (done ++ block) t₀
over_lent t₀ t back done block at e l h b =
    let same : length t ≡ length t₀ = ap length e ∙ over-length done t₀ (omega arith) in
    ap (put_mid at (length t - at) t) b
    ∙ ap (λ (s : List ℕ). put_mid at (length t - at) s (over block (mid_of at (length t - at) s))) e
    ∙ over_block done block t₀ at (length t - at) l (omega arith) (omega arith)

-- a block written over the part after the list
pub over_part : (t₀ t done block : List ℕ) (at k : ℕ) → t ≡ over done t₀ → length done ≡ at → length block ≡ k → put_mid at k t block ≡ over (done ++ block) t₀
over_part t₀ t done block at k e l b =
    ap (λ (s : List ℕ). put_mid at k s block) e
    ∙ ap (λ (p : List ℕ). p ++ (block ++ drop k (drop at (over done t₀)))) (take_at done (drop (length done) t₀) at l)
    ∙ ap (λ (r : List ℕ). done ++ (block ++ drop k r)) (drop_at done (drop (length done) t₀) at l ∙ ap (λ (i : ℕ). drop i t₀) l)
    ∙ ap (λ (r : List ℕ). done ++ (block ++ r)) (drop-drop k at t₀)
    ∙ sym
    (over_at (done ++ block) t₀ (at + k) (omega (arith, length-append done block))
    ∙ append_assoc done block (drop (at + k) t₀))
