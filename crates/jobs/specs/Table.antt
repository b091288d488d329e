-- The job table: a list of words, four for each job in the order R, C, D, V. Jobs are numbered from 0.
use Rattle.std.specs.Prelude.{ℕ, ◌+◌, ◌*◌, ◌/◌, Bool, ◌&&◌, List, [], ◌∷◌, length, get_or, leb}

-- The words of a job.
abbrev pub row_words : ℕ
row_words = 4

-- Jobs n.
abbrev pub jobs : List ℕ → ℕ
jobs table = length table / row_words

-- The word of a job's row at the field's index in it.
abbrev pub word : List ℕ → ℕ → ℕ → ℕ
word table job field = get_or table (job * row_words + field) 0

-- Ready R of a job.
abbrev pub ready : List ℕ → ℕ → ℕ
ready table job = word table job 0

-- Longest run C of a job.
abbrev pub run : List ℕ → ℕ → ℕ
run table job = word table job 1

-- Deadline D of a job.
abbrev pub deadline : List ℕ → ℕ → ℕ
deadline table job = word table job 2

-- Longest recovery V of a job.
abbrev pub recovery : List ℕ → ℕ → ℕ
recovery table job = word table job 3

-- The ranges of R, C, D and V: from `lowest` to `highest`, by the field's index in the row.
abbrev pub lowest : ℕ → ℕ
lowest field = get_or (0 ∷ 1 ∷ 0 ∷ 0 ∷ []) field 0

abbrev pub highest : ℕ → ℕ
highest field = get_or (1000000 ∷ 100000 ∷ 10000000 ∷ 100000 ∷ []) field 0

-- Whether a value is in the range of a field.
abbrev pub in_range : ℕ → ℕ → Bool
in_range field value = leb (lowest field) value && leb value (highest field)
