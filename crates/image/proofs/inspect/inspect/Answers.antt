-- A mark for each buffer has room in the array of them. Assumes nothing.
use mathlib.Core.Path.{sym}
use lib.Seq.{length-take-le}
use Rattle.image.proofs.Findings.{count_small}
use Rattle.image.proofs.inspect.inspect.Goals as goal

pub slice_bounds-inspect_open-end : goal.slice_bounds-inspect_open-end
slice_bounds-inspect_open-end c = sym (length-take-le _ _ (count_small _ c.in_ok-open.open.law))

pub inspect_open-requires : goal.inspect_open-requires
inspect_open-requires c = length-take-le _ _ (count_small _ c.in_ok-open.open.law)
