-- The lengths of a lawful sheet are at most those of the spaces that are read into. Assumes nothing.
use mathlib.Core.Path.{sym, ◌∙◌}
use Rattle.area.specs.Record.{record_size}
use Rattle.sheet.proofs.Opens.{lengths_known}
use Rattle.heap_report.proofs.read_on.Goals as goal

pub read_areas-requires : goal.read_areas-requires
unfolding record_size
read_areas-requires g c =
    let k = lengths_known _ _ _ _ (sym c.area_lengths.ensures ∙ c.in-Ok.is) in
    record { heap_len_bound = k.0; records_len_bound = k.1 }
