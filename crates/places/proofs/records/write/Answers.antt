-- The record lies in the area. Assumes nothing.
use Rattle.geometry.proofs.Sheets.{record_in}
use Rattle.places.proofs.records.write.Goals as goal

pub write-requires : goal.write-requires
write-requires c = record_in c.args.g c.args.j _ c.requires.records_len c.requires.j_lt_count
