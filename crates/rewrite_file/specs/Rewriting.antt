-- A job file of the old rule, by which a missing head meant one fault, rewritten byte for byte.
use Rattle.std.specs.Prelude.{ℕ, Bool, true, false, cond, List, ◌++◌, length, ltb}
use Rattle.text.specs.Text.{refusal, most_bytes, too_long}
use Rattle.jobfile.specs.Meaning.{Meaning, holds, refused, walk, headed}
use Rattle.jobfile_write.specs.Writing.{head_bytes}

-- The k of a file without a head by the old rule.
abbrev pub old_k : ℕ
old_k = 1

-- The meaning of a file by the old rule.
abbrev pub old_meaning : List ℕ → Meaning
old_meaning file = walk file 0 0 0 old_k

-- A missing head becomes a head of 1, and other files stay.
abbrev pub with_head : List ℕ → List ℕ
with_head file = cond (headed file) file (head_bytes old_k ++ file)

-- What is written for an input, by whether it is too long and what it meant: a too long or refused file gets the report's line.
abbrev pub written_for : Bool → Meaning → List ℕ → List ℕ
written_for true m file = too_long
written_for false (refused r) file = refusal r
written_for false (holds table k) file = with_head file

-- An input rewritten.
unfoldable pub rewritten : List ℕ → List ℕ
rewritten file = written_for (ltb most_bytes (length file)) (old_meaning file) file
