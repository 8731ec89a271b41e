-- J1 (a buffer's own record). Assumes nothing.
use Rattle.std.specs.Prelude.{cond, List, [], ◌∷◌, ℕ, zero, suc, eqb, Option, Some, None}
use Rattle.geometry.specs.Sheet.{buffer_address}
use Rattle.sheet.specs.Areas.{Image}
use Rattle.geometry.specs.declared.sheet.Sheet.{Sheet}
use Rattle.area.specs.Place.{by_place}
use Rattle.area.specs.Record.{address_word}

-- ---- the rule

-- the records j below n whose word is a, the last first
unfoldable pub namers : (ℕ → ℕ) → ℕ → ℕ → List ℕ
namers word zero a = []
namers word (suc j) a = cond (eqb (word j) a) (j ∷ namers word j a) (namers word j a)

-- the one element of a list that has exactly one
abbrev pub the_one : List ℕ → Option ℕ
the_one [] = None
the_one (j ∷ []) = Some j
the_one (j ∷ (k ∷ l)) = None

-- J1 (the own record of buffer i), of the records of a sheet
unfoldable pub own_in : Sheet → List ℕ → ℕ → Option ℕ
own_in g records i = the_one (namers (address_word g.format records) g.count (buffer_address g i))

-- J1 (the own record of buffer i of an image)
abbrev pub own_of : Image → ℕ → Option ℕ
own_of m i = own_in m.sheet m.records i

-- by the own record, if there is one
abbrev pub by_own : {A : Type 0} → Option ℕ → (ℕ → A) → A → A
by_own p f none = by_place p f none
