-- The marks, a byte for each of n records and buffers, and what a walk from some word of the chain on gives. Assumes nothing.
use Rattle.std.specs.Prelude.{cond, ◌≡◌, List, [], ◌∷◌, ◌++◌, ℕ, zero, suc, ◌+◌, ◌-◌, ◌*◌, ◌%◌, eqb, length}
use Rattle.area.specs.Place.{by_place}
use Rattle.geometry.specs.Sheet.{record_of}
use Rattle.geometry.specs.declared.sheet.Sheet.{Sheet}
use Rattle.chain.specs.Chain.{occ, Chain, chain_after, chain_in}
use Rattle.tags.specs.declared.ending.Ending.{Ending}
use Rattle.tags.specs.declared.ending.Ending.TheVariants.{End, Broken, Again}
use Rattle.chain.specs.declared.walk.Stop.{Stop}
use Rattle.chain.specs.declared.walk.Walked.{Walked}

-- the list of f 0 up to f (n - 1)
unfoldable pub table : ℕ → (ℕ → ℕ) → List ℕ
table zero f = []
table (suc n) f = f 0 ∷ table n (λ i. f (suc i))

-- 0 for none, 1 for more
abbrev pub to_one : ℕ → ℕ
to_one zero = 0
to_one (suc k) = 1

-- H5 (the records that are met): the lowest digit of byte i is 1 where record i is in the list, else 0, and `rest i` stands above it
abbrev pub area_of : ℕ → (ℕ → ℕ) → List ℕ → List ℕ
area_of n rest l = table n (λ i. to_one (occ i l) + 2 * rest i)

-- how many of the bytes are those of records not met
unfoldable pub unmet : List ℕ → ℕ
unmet [] = 0
unmet (b ∷ l) = 1 - b % 2 + unmet l

-- H2, H3, H4 (how a chain ends that stops at the word w): at 0, at a record, which is then one already met, or at none
unfoldable pub ending_at : Sheet → ℕ → Ending
ending_at g w = cond (eqb w 0) End (by_place (record_of g w) (λ i. Again i) Broken)

-- the stop r and the marks at exit are those of the chain c, before which the records `seen` were met, `before` of them
pub record Gives (c : Chain) (rest : ℕ → ℕ) (seen : List ℕ) (g : Sheet) (before : ℕ) (r : Stop) (exit : List ℕ) : Type 0 where
  pub met : r.met ≡ before + length c.met
  pub ending : ending_at g r.word ≡ c.ending
  pub marked : exit ≡ area_of g.count rest (c.met ++ seen)

-- whatever records `seen` the marks at entry stand for, and whatever stands above them, the walk is the chain from `word` with those met already
abbrev pub WalkOf : Sheet → List ℕ → ℕ → List ℕ → ℕ → Stop → List ℕ → Type 0
WalkOf g records word entry before r exit =
    (rest : ℕ → ℕ) (seen : List ℕ) → entry ≡ area_of g.count rest seen
    → Gives (chain_after g.format records g.record_base g.count seen word) rest seen g before r exit

-- the result r and the marks at exit are those of the chain c
pub record Walks (c : Chain) (rest : ℕ → ℕ) (n : ℕ) (r : Walked) (exit : List ℕ) : Type 0 where
  pub met : r.met ≡ length c.met
  pub ending : r.ending ≡ c.ending
  pub marked : exit ≡ area_of n rest c.met

-- whatever stands above the marks at entry, where no record is met, the walk is the whole chain
abbrev pub WalkIn : Sheet → List ℕ → List ℕ → Walked → List ℕ → Type 0
WalkIn g records entry r exit =
    (rest : ℕ → ℕ) → entry ≡ area_of g.count rest [] → Walks (chain_in g records) rest g.count r exit
