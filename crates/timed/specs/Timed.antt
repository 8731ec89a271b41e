-- What the benchmark's functions answer and write. Assumes nothing.
use Rattle.std.specs.Prelude.{cond, Option, Some, None, List, ℕ, ◌%◌, eqb, length}
use Rattle.runs.specs.Run.{repeated}

-- the place, and the largest number of 64 bits where there is none
abbrev pub place_of : Option ℕ → ℕ
place_of (Some o) = o
place_of None = 18446744073709551615

-- a list that is filled with the four bytes of a word again and again, where its length is a multiple of 8; else it stays
unfoldable pub filled : List ℕ → List ℕ → List ℕ
filled l w = cond (eqb (length l % 8) 0) (repeated (length l) w) l
