-- The record lies in the area. Assumes nothing.
use native.Mathlib.Omega.{arith}
use Rattle.area.proofs.Records.{record_least}
use Rattle.geometry.proofs.Sheets.{record_in}
use Rattle.places.proofs.records.next.Goals as goal

pub read-requires : goal.read-requires
read-requires c =
    record {
      record_in = record_in c.args.g c.args.j _ c.requires.records_len c.requires.j_lt_count;
      offset_bound = omega (arith, record_least c.args.g.format.profile);
    }
