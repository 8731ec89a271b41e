-- The record lies in the area, which is not long. Assumes nothing.
use native.Mathlib.Omega.{arith}
use Rattle.geometry.proofs.Sheets.{record_inside, records-small}
use Rattle.geometry.proofs.sheet.Sheet.record_place.Goals as goal

pub place-requires : goal.place-requires
place-requires c =
    omega (arith, record_inside c.args.self c.requires.lawful c.args.j c.requires.j_lt_count, records-small c.args.self c.requires.lawful.sizes)
