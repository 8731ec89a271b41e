-- The record lies in the area. Assumes nothing.
use Rattle.geometry.proofs.Sheets.{record_in}
use Rattle.places.proofs.records.set_next.Goals as goal

pub set_next-requires : goal.set_next-requires
set_next-requires c = record_in c.args.g c.args.j _ c.requires.records_len c.requires.j_lt_count
