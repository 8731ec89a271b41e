-- As many lengths as there are records, which is not much. Assumes nothing.
use native.Mathlib.Omega.{arith}
use Rattle.geometry.proofs.Sheets.{records-small}
use Rattle.geometry.proofs.sheet.Sheet.records_length.Goals as goal

pub place-requires : goal.place-requires
place-requires c = omega (arith, records-small c.args.self c.requires)
