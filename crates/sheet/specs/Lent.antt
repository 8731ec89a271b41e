-- The bytes of the three areas as they are lent, and what a call leaves in them. Assumes nothing.
use Rattle.std.specs.Prelude.{◌≡◌, Result, Ok, Err}
use Rattle.tags.specs.declared.refusal.Refusal.{Refusal}
use Rattle.geometry.specs.declared.sheet.Sheet.{Sheet}
use Rattle.sheet.specs.Areas.{Areas, areas, Outcome, Image as Numbered, image_in}
use Rattle.sheet.specs.declared.lent.Image.{Image}
use Rattle.sheet.specs.declared.lent.ImageMut.{ImageMut}
use Rattle.sheet.specs.declared.lent.HeapMut.{HeapMut}
use Rattle.sheet.specs.declared.open_image.OpenImage.{OpenImage}

-- A1, A2, S1 (heap, records and sheet, as they are lent): the bytes behind the references
abbrev pub seen : Image → Areas
seen i = areas i.sheet.now i.heap.now i.records.now

abbrev pub lent : ImageMut → Areas
lent i = areas i.sheet.now i.heap.now i.records.now

abbrev pub lent_heap : HeapMut → Areas
lent_heap i = areas i.sheet.now i.heap.now i.records.now

-- K1 (all that a call writes): its answer, and the bytes that it leaves in the areas that were lent, which are still those three
pub record Call {T : Type 0} (result : T) (old new : ImageMut) (o : Outcome T) : Type 0 where
  pub answer : result ≡ o.answer
  pub bytes : lent new ≡ o.areas
  pub sheet : new.sheet.ghost_name ≡ old.sheet.ghost_name
  pub heap : new.heap.ghost_name ≡ old.heap.ghost_name
  pub records : new.records.ghost_name ≡ old.records.ghost_name

-- the same of a call that writes the heap alone
pub record HeapCall {T : Type 0} (result : T) (old new : HeapMut) (o : Outcome T) : Type 0 where
  pub answer : result ≡ o.answer
  pub bytes : lent_heap new ≡ o.areas
  pub sheet : new.sheet ≡ old.sheet
  pub heap : new.heap.ghost_name ≡ old.heap.ghost_name
  pub records : new.records ≡ old.records

-- ---- an image that is open

-- E3 (an image that passed X1, X2 and X3): its numbers and its bytes; M6 (an image whose list nobody gives has an empty one)
abbrev pub image_open : OpenImage → Numbered
image_open o = image_in o.sheet o.heap.now o.records.now

-- E3 (or the first refusal that holds): its numbers alone
abbrev pub sheet_open : Result OpenImage Refusal → Result Sheet Refusal
sheet_open (Ok o) = Ok o.sheet
sheet_open (Err why) = Err why
