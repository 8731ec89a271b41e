-- What the report says, as numbers: three for each buffer and three for the chain. Assumes nothing.
use Rattle.std.specs.Prelude.{Bool, ◌&&◌, cond, List, [], ◌∷◌, ℕ, ◌*◌, leb, length, Result, Ok, Err}
use Rattle.std.proofs.lemmas.List.Edits.{sets}
use Rattle.tags.specs.Ending.{ending_number, ending_value}
use Rattle.tags.specs.declared.format.Profile.{Profile}
use Rattle.tags.specs.declared.ending.Ending.{Ending}
use Rattle.tags.specs.declared.refusal.Refusal.{Refusal}
use Rattle.tags.specs.declared.refusal.Refusal.TheVariants.{ShortOutput}
use Rattle.sheet.specs.Areas.{Areas, Image, opening_with_log, by_magazines, by_listed}
use Rattle.chain.specs.Chain.{Chain, chain_of}
use Rattle.survey.specs.Table.{table_of}

-- K14 (the chain as numbers)
abbrev pub chain_numbers : ℕ → Ending → List ℕ
chain_numbers met e = met ∷ ending_number e ∷ ending_value e ∷ []

-- K14 (how many records it meets, and how it ends): those of a chain
abbrev pub numbers_of : Chain → List ℕ
numbers_of c = chain_numbers (length c.met) c.ending

-- what such a survey answers, and the two lent rows afterwards
pub record Numbered (A : Type 0) : Type 0 where
  pub answer : A
  pub rows : List ℕ
  pub chain : List ℕ

abbrev pub numbering : {A : Type 0} → A → List ℕ → List ℕ → Numbered A
numbering answer rows chain = record { answer = answer; rows = rows; chain = chain }

-- E1 (a refused survey leaves both rows)
abbrev pub unnumbered : List ℕ → List ℕ → Refusal → Numbered (Result ℕ Refusal)
unnumbered rows chain why = numbering (Err why) rows chain

-- F5 (the need: three numbers for each of n buffers, and three for the chain), of rows so long
abbrev pub room_for : ℕ → ℕ → ℕ → Bool
room_for n rows chain = leb (n * 3) rows && leb 3 chain

-- E8, F5, of an open image: the tests of its list come first
unfoldable pub survey_numbers_in : Image → List ℕ → List ℕ → Numbered (Result ℕ Refusal)
survey_numbers_in m rows chain =
    by_magazines m.sheet m.magazines
    (cond (room_for m.sheet.count (length rows) (length chain))
    (numbering (Ok m.sheet.count) (sets rows 0 (table_of m)) (sets chain 0 (numbers_of (chain_of m))))
    (unnumbered rows chain ShortOutput))
    (unnumbered rows chain)

-- E8 (X11, after E3 with the log, of k bytes, and the magazine list l), F5
unfoldable pub survey_numbers_of : Profile → Areas → List ℕ → ℕ → List ℕ → List ℕ → Numbered (Result ℕ Refusal)
survey_numbers_of p a l k rows chain =
    by_listed (opening_with_log p a k) a l
    (λ m. cond (room_for m.sheet.count (length rows) (length chain))
    (numbering (Ok m.sheet.count) (sets rows 0 (table_of m)) (sets chain 0 (numbers_of (chain_of m))))
    (unnumbered rows chain ShortOutput))
    (unnumbered rows chain)
