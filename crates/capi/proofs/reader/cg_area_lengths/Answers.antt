-- The lengths of a lawful sheet are small. Assumes nothing.
use mathlib.Core.Path.{sym, ◌∙◌}
use native.Mathlib.Omega.{arith}
use Rattle.area.proofs.Records.{record_most}
use Rattle.sheet.proofs.Opens.{lengths_known}
use Rattle.capi.proofs.reader.cg_area_lengths.Goals as goal

pub overflow_cast-lengths : goal.overflow_cast-lengths
overflow_cast-lengths c = omega (arith, (lengths_known _ _ c.in-Ok.areas.heap c.in-Ok.areas.records (sym c.area_lengths.ensures ∙ c.in-Ok.is)).0)

pub overflow_cast-lengths-2 : goal.overflow_cast-lengths-2
overflow_cast-lengths-2 c =
    omega (arith, (lengths_known _ _ c.in-Ok.areas.heap c.in-Ok.areas.records (sym c.area_lengths.ensures ∙ c.in-Ok.is)).1, record_most c.from.result)
