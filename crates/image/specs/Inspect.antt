-- Inspect: the findings of an image. Assumes nothing.
use Rattle.std.specs.Prelude.{List, ℕ, zero, suc, set, Result, Ok, Err}
use Rattle.tags.specs.Filling.{Filling, filling, unfilled, if_room}
use Rattle.tags.specs.declared.format.Profile.{Profile}
use Rattle.tags.specs.declared.refusal.Refusal.{Refusal}
use Rattle.tags.specs.declared.refusal.Refusal.TheVariants.{ShortOutput}
use Rattle.sheet.specs.Areas.{Areas, Image, image_with, opening, by_magazines}
use Rattle.sheet.specs.Opening.{by_opened}
use Rattle.verdicts.specs.Judge.{verdict_of}
use Rattle.image.specs.declared.inspect.Finding.{Finding}

-- K11 (index and verdict): the finding of buffer i
abbrev pub finding_of : Image → ℕ → Finding
finding_of m i = record { index = i; verdict = verdict_of m i }

-- K11 (one for each buffer, places past n stay): a lent row once the findings f 0 to f (n - 1) stand at their places
abbrev pub filled : (ℕ → Finding) → List Finding → ℕ → List Finding
filled f rows zero = rows
filled f rows (suc i) = set (filled f rows i) i (f i)

abbrev pub Inspection : Type 0
Inspection = Filling (Result ℕ Refusal) Finding

-- K11 (a finding for each buffer of an image)
abbrev pub inspected : Image → List Finding → Inspection
inspected m rows = filling (Ok m.sheet.count) (filled (finding_of m) rows m.sheet.count)

-- E8 (the need: a finding for each buffer) of an open image, after X3 and X4 of its magazine list
unfoldable pub inspection_of : Image → List Finding → Inspection
inspection_of m rows =
    by_magazines m.sheet m.magazines (if_room m.sheet.count rows (inspected m rows) (Err ShortOutput)) (λ why. unfilled (Err why) rows)

-- E8, after E3 with the magazine list l
unfoldable pub inspect_of : Profile → Areas → List ℕ → List Finding → Inspection
inspect_of p a l rows = by_opened (opening p a) (λ g. inspection_of (image_with a l g) rows) (λ why. unfilled (Err why) rows)
