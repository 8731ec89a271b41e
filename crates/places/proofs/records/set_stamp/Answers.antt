-- The record lies in the area. Assumes nothing.
use Rattle.geometry.proofs.Sheets.{record_in}
use Rattle.places.proofs.records.set_stamp.Goals as goal

pub set_stamp-requires : goal.set_stamp-requires
set_stamp-requires c = record_in c.args.g c.args.j _ c.requires.records_len c.requires.j_lt_count
