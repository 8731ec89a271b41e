-- The chain. Assumes nothing.
use Rattle.std.specs.Prelude.{Bool, not, cond, ◌≡◌, ◌≢◌, List, [], ◌∷◌, ℕ, zero, suc, ◌+◌, eqb, Option, Some, None}
use Rattle.area.specs.Place.{place_of, by_place}
use Rattle.area.specs.Record.{record_size, next_word}
use Rattle.sheet.specs.Areas.{Image}
use Rattle.geometry.specs.declared.sheet.Sheet.{Sheet}
use Rattle.tags.specs.declared.format.Format.{Format}
use Rattle.tags.specs.declared.ending.Ending.{Ending}
use Rattle.tags.specs.declared.ending.Ending.TheVariants.{End, Broken, Again}

-- how often x stands in a list
unfoldable pub occ : ℕ → List ℕ → ℕ
occ x [] = 0
occ x (y ∷ l) = cond (eqb x y) 1 0 + occ x l

-- the records that a chain meets, in order, and how it ends
pub record Chain : Type 0 where
  pub met : List ℕ
  pub ending : Ending

-- a chain that stops at once, and one that meets record i first
abbrev pub stop : Ending → Chain
stop e = record { met = []; ending = e }

abbrev pub meets : ℕ → Chain → Chain
meets i c = record { met = i ∷ c.met; ending = c.ending }

-- The rule itself, of any `chain` that is told which records are met already and from which word to go on; `next j` is the next word of record j, and
-- `at w` the record whose address w is.
pub record ChainRule (next : ℕ → ℕ) (at : ℕ → Option ℕ) (chain : List ℕ → ℕ → Chain) : Type 0 where
  -- H2 (the end)
  pub ends : (seen : List ℕ) → chain seen 0 ≡ stop End
  -- H3 (broken)
  pub breaks : (seen : List ℕ) (w : ℕ) → w ≢ 0 → at w ≡ None → chain seen w ≡ stop Broken
  -- H4 ("again")
  pub comes_back : (seen : List ℕ) (w i : ℕ) → w ≢ 0 → at w ≡ Some i → occ i seen ≢ 0 → chain seen w ≡ stop (Again i)
  -- H5 (a record is met)
  pub goes_on : (seen : List ℕ) (w i : ℕ) → w ≢ 0 → at w ≡ Some i → occ i seen ≡ 0 → chain seen w ≡ meets i (chain (i ∷ seen) (next i))

-- The chain that meets the rule (`chain_rule`). The first number only bounds the steps: with one more than there are records (H6) no chain runs out.
unfoldable pub chain_from : (ℕ → ℕ) → (ℕ → Option ℕ) → ℕ → List ℕ → ℕ → Chain
chain_from next at zero seen w = stop Broken
chain_from next at (suc k) seen w =
    cond (eqb w 0) (stop End)
    (by_place (at w) (λ i. cond (eqb (occ i seen) 0) (meets i (chain_from next at k (i ∷ seen) (next i))) (stop (Again i))) (stop Broken))

-- the same, of the n records in `records` at the address `base`
unfoldable pub chain_after : Format → List ℕ → ℕ → ℕ → List ℕ → ℕ → Chain
chain_after f records base n seen w = chain_from (next_word f records) (place_of base (record_size f.profile) n) (suc n) seen w

-- H1 (it starts at the head): the whole chain, of the records of a sheet
unfoldable pub chain_in : Sheet → List ℕ → Chain
chain_in g records = chain_after g.format records g.record_base g.count [] g.head

-- H1 (the chain of an image)
abbrev pub chain_of : Image → Chain
chain_of m = chain_in m.sheet m.records

-- H5 (record j is met by a chain)
abbrev pub met_by : Chain → ℕ → Bool
met_by c j = not (eqb (occ j c.met) 0)
