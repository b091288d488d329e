-- Laws of the asks' promises.
--
-- In order: three refusals after the table's own; the refusals of schedule taken apart, and that two results which its promise allows are equal: the
-- answer and the buffer are each equal to the same definition; then the same of free slots. Assumes nothing.
use Prim.Native.Nat.{ℕ}
use mathlib.Core.Path.{◌≡◌, sym, ap, ◌∙◌}
use mathlib.Core.List.{List, [], ◌∷◌, ◌++◌}
use Rattle.std.specs.Prelude.{Result}
use Rattle.jobs.specs.Refusals.{Check, after, first, table_refusals}
use Rattle.jobs.specs.declared.refusal.Refusal.{Refusal}
use Rattle.jobs.proofs.Refusals.{after_last, first-append}
use Rattle.schedule.specs.Asks.{short_buffer, wrong_pattern, too_many_failures, too_late, schedule_refusals, Scheduled, free_slots_refusals, free_slots_answer}

-- ---- three refusals after the table's own

pub three_more : (table : List ℕ) (a b c : Check) → first (table_refusals table ++ a ∷ b ∷ c ∷ []) ≡ after (first (table_refusals table)) (after a (after b c))
three_more table a b c =
    first-append (table_refusals table) (a ∷ b ∷ c ∷ []) ∙ ap (λ last. after (first (table_refusals table)) (after a (after b last))) (after_last c)

-- ---- schedule

-- The table's refusals come first.
pub schedule_refusals_lem : (table pattern : List ℕ) (room : ℕ) → first (schedule_refusals table pattern room)
    ≡ after (first (table_refusals table)) (after (wrong_pattern table pattern) (after (too_many_failures pattern) (short_buffer table room)))
schedule_refusals_lem table pattern room = three_more table (wrong_pattern table pattern) (too_many_failures pattern) (short_buffer table room)

module _ (table pattern before : List ℕ) where
  -- Two results that the promise allows are equal.
  module _ (after after' : List ℕ) (answer answer' : Check) (one : Scheduled table pattern before after answer)
      (other : Scheduled table pattern before after' answer') where
    pub schedule_same_answer : answer ≡ answer'
    schedule_same_answer = one.answers ∙ sym other.answers

    pub schedule_same_buffer : after ≡ after'
    schedule_same_buffer = one.fills ∙ sym other.fills

-- ---- free slots

-- The table's refusals come first, and then 9.
pub free_slots_refusals_lem : (table : List ℕ) (a b : ℕ) → first (free_slots_refusals table a b) ≡ after (first (table_refusals table)) (too_late a b)
free_slots_refusals_lem table a b = first-append (table_refusals table) (too_late a b ∷ []) ∙ ap (after (first (table_refusals table))) (after_last (too_late a b))

-- Two results that the promise allows are equal.
pub free_slots_one_answer : (table : List ℕ) (a b : ℕ) (r s : Result ℕ Refusal) → r ≡ free_slots_answer table a b → s ≡ free_slots_answer table a b → r ≡ s
free_slots_one_answer table a b r s p q = p ∙ sym q
