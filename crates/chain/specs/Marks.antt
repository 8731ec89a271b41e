-- The marks that an image is judged by, one byte for each of n places, and what marking answers. Assumes nothing.
use Rattle.tags.specs.declared.refusal.Refusal.{Refusal}
use Rattle.std.specs.Prelude.{◌≡◌, Bool, not, cond, List, [], ℕ, zero, suc, ◌+◌, ◌*◌, ◌/◌, ◌%◌, ◌<◌, eqb, ltb, length, Result, Ok, Err}
use Rattle.sheet.specs.Areas.{by_magazines}
use Rattle.geometry.specs.Sheet.{buffer_address}
use Rattle.geometry.specs.declared.sheet.Sheet.{Sheet}
use Rattle.area.specs.Record.{address_word}
use Rattle.chain.specs.declared.marks.Digits.{Digits}
use Rattle.chain.specs.declared.walk.Walked.{Walked}
use Rattle.chain.specs.Chain.{Chain, chain_in}
use Rattle.chain.specs.Walk.{area_of}
use Rattle.chain.specs.Pairing.{namers}
use Rattle.chain.specs.Magazines.{listed_in}

-- 0, 1, and 2 for more
abbrev pub to_two : ℕ → ℕ
to_two zero = 0
to_two (suc zero) = 1
to_two (suc (suc k)) = 2

-- J1 (how many of the first j records name buffer i)
abbrev pub named_by : Sheet → List ℕ → ℕ → ℕ → ℕ
named_by g records j i = length (namers (address_word g.format records) j (buffer_address g i))

-- J1 (not one, one or several records name buffer i): the digit above the lowest, when the first j records are counted
abbrev pub names_after : Sheet → List ℕ → ℕ → ℕ → ℕ
names_after g records j i = to_two (named_by g records j i)

-- M2 (how often buffer i is listed: not, once, or more often): the highest digit, above those of `rest`
abbrev pub with_listed : Sheet → List ℕ → (ℕ → ℕ) → ℕ → ℕ
with_listed g l rest i = rest i + 4 * to_two (listed_in g l i)

-- the marks that a list is counted in: whatever stands below the highest digit, which is 0, it stays
abbrev pub Lists : Sheet → List ℕ → List ℕ → List ℕ → Type 0
Lists g l entry exit =
    (rest : ℕ → ℕ) → ((i : ℕ) → rest i < 4) → entry ≡ area_of g.count rest [] → exit ≡ area_of g.count (with_listed g l rest) []

-- J1, M2: the two digits of buffer i above the lowest
abbrev pub counts_in : Sheet → List ℕ → List ℕ → ℕ → ℕ
counts_in g records l = with_listed g l (names_after g records g.count)

-- H5, J1, M2: byte i says whether the chain meets record i, how many records name buffer i, and how often it is listed
unfoldable pub marks_in : Sheet → List ℕ → List ℕ → List ℕ
marks_in g records l = area_of g.count (counts_in g records l) (chain_in g records).met

-- ---- what marking answers

-- H1 (how many records a chain meets, and how it ends)
abbrev pub walked_of : Chain → Walked
walked_of c = record { met = length c.met; ending = c.ending }

-- E3 (X3, X4 of the magazine list): the chain of the records, or why the list is refused
unfoldable pub marked_of : Sheet → List ℕ → List ℕ → Result Walked Refusal
marked_of g records l = by_magazines g l (Ok (walked_of (chain_in g records))) Err

-- the bytes are the marks, where the list is not refused
abbrev pub MarksIf : Result Walked Refusal → List ℕ → List ℕ → Type 0
MarksIf (Ok w) bytes marks = bytes ≡ marks
MarksIf (Err why) bytes marks = Unit {0}

-- ---- one byte

-- H5 (the record is met)
abbrev pub met_digit : ℕ → Bool
met_digit b = not (eqb (b % 2) 0)

-- J1 (how many records name the buffer)
abbrev pub names_digit : ℕ → ℕ
names_digit b = b / 2 % 4

-- M2 (how often the buffer is listed)
abbrev pub listed_digit : ℕ → ℕ
listed_digit b = b / 8

-- what a byte says
abbrev pub digits_of : ℕ → Digits
digits_of b = record { met = met_digit b; names = names_digit b; listed = listed_digit b }

-- the byte with one record more that names the buffer
abbrev pub with_name : ℕ → ℕ
with_name b = cond (eqb (names_digit b) 2) b (b + 2)

-- the byte with its buffer listed once more
abbrev pub with_listing : ℕ → ℕ
with_listing b = cond (ltb (listed_digit b) 2) (b + 8) b
