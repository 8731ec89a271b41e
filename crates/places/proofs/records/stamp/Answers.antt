-- The record lies in the area. Assumes nothing.
use Rattle.geometry.proofs.Sheets.{record_in}
use Rattle.places.proofs.records.stamp.Goals as goal

pub read_stamp-requires : goal.read_stamp-requires
read_stamp-requires c = record_in c.args.g c.args.j _ c.requires.records_len c.requires.j_lt_count
