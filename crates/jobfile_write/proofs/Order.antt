-- Laws of the order of write's refusals: 1 to 3 of the table, then 4, then 28. Assumes nothing.
use Prim.Native.Nat.{ℕ, ◌≤◌, ◌<◌}
use native.Mathlib.Omega.{arith}
use mathlib.Core.Path.{◌≡◌, sym, ap, ◌∙◌}
use mathlib.Core.List.{List, [], ◌∷◌}
use lib.ListN.{length}
use lib.Dec.{ltb}
use borrow.Author.Tests.{lt-ltb, le-ltb, ltb-false}
use Rattle.std.specs.Prelude.{Err}
use Rattle.jobs.specs.Refusals.{Check, fine, refused, after, first, table_refusals, too_many_faults}
use Rattle.jobs.specs.declared.refusal.Reason.TheVariants.{ShortFile}
use Rattle.jobs.specs.declared.refusal.Refusal.{Refusal}
use Rattle.jobs.proofs.Refusals.{first-append, after_fine, not-given}
use Rattle.jobfile_write.specs.Writing.{file_of, no_room, write_refusals, WritesTo}

module _ (table : List ℕ) (k room : ℕ) where
  in_order : first (write_refusals table k room) ≡ after (first (table_refusals table)) (after (too_many_faults k) (after (no_room table k room) fine))
  in_order = first-append (table_refusals table) (too_many_faults k ∷ no_room table k room ∷ [])

  pub table_first : (refusal : Refusal) → first (table_refusals table) ≡ Err refusal → first (write_refusals table k room) ≡ Err refusal
  table_first refusal e = in_order ∙ ap (λ (c : Check). after c (after (too_many_faults k) (after (no_room table k room) fine))) e

  module _ (good : first (table_refusals table) ≡ fine) where
    table_fine : first (write_refusals table k room) ≡ after (too_many_faults k) (after (no_room table k room) fine)
    table_fine = in_order ∙ ap (λ (c : Check). after c (after (too_many_faults k) (after (no_room table k room) fine))) good

    pub faults_next : (refusal : Refusal) → too_many_faults k ≡ Err refusal → first (write_refusals table k room) ≡ Err refusal
    faults_next refusal e = table_fine ∙ ap (λ (c : Check). after c (after (no_room table k room) fine)) e

    module _ (few : too_many_faults k ≡ fine) where
      faults_fine : first (write_refusals table k room) ≡ after (no_room table k room) fine
      faults_fine = table_fine ∙ ap (λ (c : Check). after c (after (no_room table k room) fine)) few

      pub room_last : (size : ℕ) → length (file_of table k) ≡ size → room < size → first (write_refusals table k room) ≡ Err (refused ShortFile size)
      room_last size e h = let short : room < length (file_of table k) = omega arith in faults_fine ∙ rw (lt-ltb _ _ short, e)

      pub all_fine : length (file_of table k) ≤ room → first (write_refusals table k room) ≡ fine
      all_fine h = faults_fine ∙ rw (le-ltb _ _ h)

-- what is not refused
pub record Writable (table : List ℕ) (k room : ℕ) : Type 0 where
  pub table_fine : first (table_refusals table) ≡ fine
  pub faults_fine : too_many_faults k ≡ fine
  pub fits : length (file_of table k) ≤ room

pub not_refused : (table : List ℕ) (k room : ℕ) → first (write_refusals table k room) ≡ fine → Writable table k room
not_refused table k room e =
    let t = after_fine (first (table_refusals table)) (after (too_many_faults k) (after (no_room table k room) fine)) (sym (in_order table k room) ∙ e) in
    let f = after_fine (too_many_faults k) (after (no_room table k room) fine) t.1 in
    let r = after_fine (no_room table k room) fine f.1 in
    record { table_fine = t.0; faults_fine = f.0; fits = ltb-false _ _ (not-given (ltb room (length (file_of table k))) ShortFile (length (file_of table k)) r.0) }

-- under a refusal nothing is written
pub writes_nothing : (table : List ℕ) (k : ℕ) (file : List ℕ) (refusal : Refusal) → first (write_refusals table k (length file)) ≡ Err refusal → WritesTo table k file (Err refusal) file
writes_nothing table k file refusal e = record { answers = rw e; fills = rw e }
