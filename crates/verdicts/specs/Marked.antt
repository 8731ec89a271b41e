-- The image that an open and marked one is. Assumes nothing.
use Rattle.std.specs.Prelude.{List, ℕ}
use Rattle.sheet.specs.Areas.{Image, image_listed}
use Rattle.sheet.specs.declared.open_image.OpenImage.{OpenImage}
use Rattle.verdicts.specs.declared.marked.MarkedImage.{MarkedImage}

-- M1 (an open image with a magazine list): its numbers, its bytes and its list
abbrev pub image_with_list : OpenImage → List ℕ → Image
image_with_list o l = image_listed o.sheet o.heap.now o.records.now l

-- and those of an image that is marked
abbrev pub image_marked : MarkedImage → Image
image_marked m = image_with_list m.image m.magazines.now
