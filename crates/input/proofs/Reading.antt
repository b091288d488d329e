-- Reads into a buffer, one after the other.
use Rattle.std.proofs.Common.{ℕ, ◌+◌, ◌≤◌, ◌≡◌, List, ◌++◌, Option, length, take, sym, ap, ◌∙◌, subst, length-take-le}
use Rattle.std.proofs.Math.Seq.{take-append-add}
use Rattle.std.proofs.lemmas.List.{take-append-le}
use Rattle.std.specs.Io.KnownBytes.{Consumes}
use Rattle.std.proofs.KnownBytes.{Consumes-trans}
use borrow.Rule.Slice.PartMut.{put_mid, post_of}

-- After a read into the rest of a buffer, its front has m bytes more.
pub take-put_mid_more : (n k m : ℕ) (xs ys : List ℕ) → n ≤ length xs → m ≤ length ys → take (n + m) (put_mid n k xs ys) ≡ take n xs ++ take m ys
take-put_mid_more n k m xs ys within fits =
    ap (λ i. take (i + m) (put_mid n k xs ys)) (sym (length-take-le n xs within))
    ∙ take-append-add (take n xs) (ys ++ post_of n k xs) m
    ∙ ap (λ l. take n xs ++ l) (take-append-le m ys (post_of n k xs) fits)

-- What the buffer's front holds is what the input lost.
pub reads-more : (a b c : Option (List ℕ)) (n k m : ℕ) (xs ys : List ℕ) → n ≤ length xs → m ≤ length ys
    → Consumes a b (take n xs) → Consumes b c (take m ys) → Consumes a c (take (n + m) (put_mid n k xs ys))
reads-more a b c n k m xs ys within fits before read =
    subst (Consumes a c) (sym (take-put_mid_more n k m xs ys within fits)) (Consumes-trans a b c _ _ before read)
