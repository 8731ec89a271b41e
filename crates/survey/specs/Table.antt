-- The findings of an image as numbers. Assumes nothing.
use Rattle.tags.specs.declared.refusal.Refusal.{Refusal}
use Rattle.std.specs.Prelude.{List, ℕ, ◌*◌, Result, Ok, Err}
use Rattle.std.proofs.lemmas.List.Edits.{sets}
use Rattle.tags.specs.Filling.{Filling, filling, unfilled, if_room}
use Rattle.tags.specs.declared.format.Profile.{Profile}
use Rattle.tags.specs.declared.refusal.Refusal.TheVariants.{ShortOutput}
use Rattle.sheet.specs.Areas.{Areas, Image, opening, by_magazines, by_listed}
use Rattle.verdicts.specs.Judge.{rows_of}

-- K12 (findings as numbers, three for each buffer, from 3 i on): the numbers of all findings of an image
unfoldable pub table_of : Image → List ℕ
table_of m = rows_of m 0 m.sheet.count

-- K12, E8, of an open image: the tests of its list come first; the need is three numbers for each buffer
unfoldable pub tabulate_in : Image → List ℕ → Filling (Result ℕ Refusal) ℕ
tabulate_in m rows =
    by_magazines m.sheet m.magazines
    (if_room (m.sheet.count * 3) rows (filling (Ok m.sheet.count) (sets rows 0 (table_of m))) (Err ShortOutput))
    (λ why. unfilled (Err why) rows)

-- K12, E8: the same tests as inspect has; the need is three numbers for each buffer
unfoldable pub tabulate_of : Profile → Areas → List ℕ → List ℕ → Filling (Result ℕ Refusal) ℕ
tabulate_of p a l rows =
    by_listed (opening p a) a l
    (λ m. if_room (m.sheet.count * 3) rows (filling (Ok m.sheet.count) (sets rows 0 (table_of m))) (Err ShortOutput))
    (λ why. unfilled (Err why) rows)
