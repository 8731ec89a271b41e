-- A sheet of one of the two forms has the short one's fields. Assumes nothing.
use Rattle.std.proofs.Common.{rules}
use Rattle.sheet.proofs.Bytes.{shaped-long}
use Rattle.sheet.proofs.opening.area_lengths.Goals as goal

pub read-requires : goal.read-requires
read-requires c = shaped-long _ (search rules)
