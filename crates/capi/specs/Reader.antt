-- The lengths of the areas as numbers. Assumes nothing.
use Rattle.tags.specs.declared.refusal.Refusal.{Refusal}
use Rattle.std.specs.Prelude.{List, [], ◌∷◌, ℕ, Result, Ok, Err}
use Rattle.std.proofs.lemmas.List.Edits.{sets}
use Rattle.tags.specs.declared.format.Profile.{Profile}
use Rattle.tags.specs.Refusal.{done}
use Rattle.tags.specs.declared.refusal.Refusal.TheVariants.{ShortOutput}
use Rattle.sheet.specs.Opening.{lengths_of}
use Rattle.sheet.specs.declared.opening.Lengths.{Lengths}
use Rattle.survey.specs.Numbers.{Numbered, numbering}
use Rattle.capi.specs.Answer.{answer_word}
use Rattle.tags.specs.Filling.{Filling, filling, unfilled, if_room}

-- F4 (two numbers): the heap's length and then the record area's, in a row with room for both
abbrev pub lengths_in : List ℕ → Result Lengths Refusal → Filling (Result ℕ Refusal) ℕ
lengths_in row (Ok l) = if_room 2 row (filling done (sets row 0 (l.heap ∷ l.records ∷ []))) (Err ShortOutput)
lengths_in row (Err why) = unfilled (Err why) row

-- F4 (X1 and X2, then X11)
unfoldable pub area_lengths_of : Profile → List ℕ → List ℕ → Filling (Result ℕ Refusal) ℕ
area_lengths_of p s row = lengths_in row (lengths_of p s)

-- F5 (the survey): the rows and the chain, with the answer as one number
abbrev pub survey_word : Numbered (Result ℕ Refusal) → Numbered ℕ
survey_word n = numbering (answer_word n.answer) n.rows n.chain
