-- The lines of some buffers by the numbers that stand for each in a row: three each, its index, its verdict's number and its value. Assumes nothing.
use Rattle.std.specs.Prelude.{List, ℕ, ◌+◌, ◌*◌, get_or}
use Rattle.words.specs.Word.{flat}
use Rattle.lines.specs.Text.{line_of}

-- K12 (findings as numbers): the number and the value of row k
abbrev pub row_number : List ℕ → ℕ → ℕ
row_number rows k = get_or rows (k * 3 + 1) 0

abbrev pub row_value : List ℕ → ℕ → ℕ
row_value rows k = get_or rows (k * 3 + 2) 0

-- G5 (buffer lines): the lines of `count` buffers from one on, by their rows
abbrev pub row_lines : List ℕ → ℕ → ℕ → List ℕ
row_lines rows first count = flat count (λ k. line_of (first + k) (row_number rows k) (row_value rows k))
