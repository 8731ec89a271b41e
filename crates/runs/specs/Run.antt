-- Runs of bytes that repeat those of a word, and the first place at which two runs differ. Assumes nothing.
use Rattle.std.specs.Prelude.{◌≡◌, cond, Option, Some, None, List, [], ◌∷◌, ◌++◌, ℕ, zero, suc, ◌/◌, ◌%◌, ◌≤◌, eqb, get_or}
use Rattle.std.specs.Int.Count.{count_trailing_zeros}
use Rattle.words.specs.Word.{part}

-- W3 (a run that repeats a word): n bytes, of which byte i is byte i mod 4 of the word's four bytes w, in whichever order these are
unfoldable pub repeated : ℕ → List ℕ → List ℕ
repeated zero w = []
repeated (suc i) w = repeated i w ++ (get_or w (i % 4) 0 ∷ [])

-- the first place at which `xs` and `ys` differ, counted from k
unfoldable pub difference_from : ℕ → List ℕ → List ℕ → Option ℕ
difference_from k [] ys = None
difference_from k (x ∷ xs) [] = Some k
difference_from k (x ∷ xs) (y ∷ ys) = cond (eqb x y) (difference_from (suc k) xs ys) (Some k)

-- J7 (the first byte that differs): the first place at which `xs` and `ys` differ
abbrev pub difference : List ℕ → List ℕ → Option ℕ
difference xs ys = difference_from 0 xs ys

-- What follows is said of the code's own steps and stands in no rule.

-- the lowest byte of a number of 64 bits that is not 0, in which its lowest digit that is set lies
abbrev pub lowest_byte : ℕ → Option ℕ
lowest_byte x = cond (eqb x 0) None (Some (count_trailing_zeros 64 x / 8))

-- the first i bytes, whole eights, of a run of `len` bytes repeat the word w
pub record Alike (l : List ℕ) (at len : ℕ) (w : List ℕ) (i : ℕ) : Type 0 where
  pub within : i ≤ len
  pub eights : i % 8 ≡ 0
  pub same : part l at i ≡ repeated i w
