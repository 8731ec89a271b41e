-- The rows of some buffers. Assumes nothing.
use Prim.Native.Nat.{ℕ, ◌+◌}
use mathlib.Core.List.{List}
use Rattle.tags.specs.Verdict.{told_of}
use Rattle.sheet.specs.Areas.{Image}
use Rattle.verdicts.specs.Judge.{verdict_of, row_of}

-- the numbers of the buffer that is k behind another
abbrev pub row : Image → ℕ → ℕ → List ℕ
row m from k = row_of (from + k) (told_of (verdict_of m (from + k)))
