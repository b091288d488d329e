-- Laws of the two loops that write, over the words of a row and over the jobs of a table: none written, one more, all. What was written so far lies over the free
-- bytes, and the next block is written over the part after it, or over the rest that is lent. Assumes nothing.
use Prim.Native.Nat.{ℕ, ◌+◌, ◌*◌, ◌-◌, ◌≤◌, ◌<◌}
use native.Mathlib.Omega.{arith}
use mathlib.Core.Path.{◌≡◌, refl, sym, ap, ◌∙◌}
use mathlib.Core.List.{List, ◌++◌, append_assoc}
use lib.ListN.{length, take, drop, get_or, length-append, length-drop}
use lib.Seq.{length-take-le, take_at, drop_at, drop-drop}
use borrow.Rule.Slice.PartMut.{mid_of, put_mid}
use Rattle.jobs.specs.Table.{row_words, jobs}
use Rattle.jobfile.specs.Bytes.{over}
use Rattle.jobfile.proofs.Over.{over-length, over_lent, over_part}
use Rattle.jobfile_write.specs.Writing.{bytes_of, word_bytes, job_bytes, jobs_bytes}
use Rattle.jobfile_write.proofs.Lengths.{bytes_of-length, word_bytes-length, word_bytes_more, jobs_bytes-length, jobs_bytes_more}

-- the first words of a row, after the start of its record
module _ (start row free₀ : List ℕ) (four : length start ≡ 4) (free : List ℕ) (i : ℕ) (laid : free ≡ over (start ++ word_bytes (take i row)) free₀) where
  words-length : i ≤ length row → length (start ++ word_bytes (take i row)) ≡ 4 + 4 * i
  words-length h = omega (arith, length-append start (word_bytes (take i row)), word_bytes-length (take i row), length-take-le i row h)

  pub free-length : i ≤ length row → 4 + 4 * i ≤ length free₀ → length free ≡ length free₀
  free-length h l = ap length laid ∙ over-length (start ++ word_bytes (take i row)) free₀ (omega (arith, words-length h))

  pub words_more : (block : List ℕ) (at size : ℕ) → i < length row → block ≡ bytes_of 4 (get_or row i 0) → at ≡ 4 + 4 * i → size ≡ 4
      → put_mid at size free block ≡ over (start ++ word_bytes (take (i + 1) row)) free₀
  words_more block at size h b a s =
      let whole : length block ≡ size = ap length b ∙ bytes_of-length 4 (get_or row i 0) ∙ sym s in
      over_part free₀ free (start ++ word_bytes (take i row)) block at size laid (omega (arith, words-length (omega arith))) whole
      ∙ ap (λ (l : List ℕ). over l free₀)
      (ap (λ (l : List ℕ). (start ++ word_bytes (take i row)) ++ l) b
      ∙ append_assoc start (word_bytes (take i row)) (bytes_of 4 (get_or row i 0))
      ∙ ap (λ (l : List ℕ). start ++ l) (sym (word_bytes_more row i h)))

-- the first jobs of a table, with the words that are still to be cut
pub record JobsLaid (table free₀ free rest : List ℕ) (count : ℕ) : Type 0 where
  pub inside : count * row_words ≤ length table
  pub left : rest ≡ drop (count * row_words) table
  pub laid : free ≡ over (jobs_bytes count table) free₀

pub jobs_none : (table free rest : List ℕ) → rest ≡ table → JobsLaid table free free rest 0
unfolding jobs_bytes
jobs_none table free rest e = record { inside = omega arith; left = e; laid = refl }

module _ (table free₀ free rest : List ℕ) (count : ℕ) (whole : length table ≡ jobs table * row_words) (room : jobs table * 20 ≤ length free₀)
    (j : JobsLaid table free₀ free rest count) where
  jobs-count : length (jobs_bytes count table) ≡ count * 20
  jobs-count = jobs_bytes-length count table (omega (arith, j.inside))

  pub jobs-length : length free ≡ length free₀
  jobs-length = ap length j.laid ∙ over-length (jobs_bytes count table) free₀ (omega (arith, jobs-count, j.inside))

  -- a row cut off from the words that are left is the next one, and its job has room
  module _ (row others : List ℕ) (cut : rest ≡ row ++ others) (long : length row ≡ row_words) where
    row_inside : count * row_words + row_words ≤ length table
    row_inside = omega (arith, ap length j.left, ap length cut, length-append row others, length-drop (count * row_words) table, j.inside)

    pub job_room : count * 20 + 20 ≤ length free
    job_room = omega (arith, jobs-length, row_inside)

    row_is : take row_words (drop (count * row_words) table) ≡ row
    row_is = ap (take row_words) (sym j.left ∙ cut) ∙ take_at row others row_words long

    pub jobs_more : (back : List ℕ) (at size next : ℕ) → at ≡ count * 20 → size ≡ length free - at → next ≡ count + 1 → back ≡ over (job_bytes row) (mid_of at size free)
        → JobsLaid table free₀ (put_mid at size free back) others next
    jobs_more back at size next a s n b =
        rw n
        (record {
          inside = omega (arith, row_inside);
          left =
              sym (drop_at row others row_words long)
              ∙ ap (drop row_words) (sym cut ∙ j.left)
              ∙ drop-drop row_words (count * row_words) table
              ∙ ap (λ (i : ℕ). drop i table) (next_words count);
          laid =
              ap (λ (k : ℕ). put_mid at k free back) s
              ∙ over_lent free₀ free back (jobs_bytes count table) (job_bytes row) at j.laid (jobs-count ∙ sym a) (omega (arith, job_room, jobs-length))
              (b ∙ ap (λ (k : ℕ). over (job_bytes row) (mid_of at k free)) s)
              ∙ ap (λ (l : List ℕ). over l free₀)
              (ap (λ (r : List ℕ). jobs_bytes count table ++ job_bytes r) (sym row_is) ∙ sym (jobs_bytes_more count table));
        })
      where
        next_words : (count : ℕ) → count * row_words + row_words ≡ (count + 1) * row_words
        next_words count = omega arith

  pub jobs-all : length rest < row_words → free ≡ over (jobs_bytes (jobs table) table) free₀
  jobs-all h =
      let all : count ≡ jobs table = omega (arith, ap length j.left, length-drop (count * row_words) table, j.inside, whole) in
      j.laid ∙ ap (λ (n : ℕ). over (jobs_bytes n table) free₀) all
