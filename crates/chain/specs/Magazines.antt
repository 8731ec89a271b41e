-- The magazine list: how often it has a buffer. Assumes nothing.
use Rattle.std.specs.Prelude.{List, ℕ}
use Rattle.geometry.specs.Sheet.{buffer_address}
use Rattle.geometry.specs.declared.sheet.Sheet.{Sheet}
use Rattle.sheet.specs.Areas.{Image}
use Rattle.chain.specs.Chain.{occ}

-- M2 (how often buffer i is listed): how many of the words are its address
abbrev pub listed_in : Sheet → List ℕ → ℕ → ℕ
listed_in g l i = occ (buffer_address g i) l

-- M2 (how often buffer i of an image is listed)
abbrev pub listed_of : Image → ℕ → ℕ
listed_of m i = listed_in m.sheet m.magazines i
