-- The promise of delays.
--
-- In order: its refusals taken apart; that two results which it allows are equal: the answer and the buffer are each equal to the same definition.
-- Assumes nothing.
use Prim.Native.Nat.{ℕ}
use mathlib.Core.Path.{◌≡◌, sym, ap, ◌∙◌}
use mathlib.Core.List.{List, [], ◌∷◌}
use Rattle.jobs.specs.Refusals.{Check, after, first, table_refusals, too_many_faults}
use Rattle.jobs.proofs.Refusals.{after_last, first-append}
use Rattle.schedule.specs.Asks.{short_buffer}
use Rattle.delays.specs.Ask.{delays_refusals, Delayed}

-- The table's refusals come first, then 4, then 5.
pub delays_refusals_lem : (table : List ℕ) (k room : ℕ)
    → first (delays_refusals table k room) ≡ after (first (table_refusals table)) (after (too_many_faults k) (short_buffer table room))
delays_refusals_lem table k room =
    first-append (table_refusals table) (too_many_faults k ∷ short_buffer table room ∷ [])
    ∙ ap (λ last. after (first (table_refusals table)) (after (too_many_faults k) last)) (after_last (short_buffer table room))

module _ (table : List ℕ) (k : ℕ) (before : List ℕ) (after after' : List ℕ) (answer answer' : Check) (one : Delayed table k before after answer)
    (other : Delayed table k before after' answer') where
  pub delays_same_answer : answer ≡ answer'
  delays_same_answer = one.answers ∙ sym other.answers

  pub delays_same_buffer : after ≡ after'
  delays_same_buffer = one.fills ∙ sym other.fills
