-- A sheet of one of the two forms has the short one's fields. Assumes nothing.
use Rattle.std.proofs.Common.{rules}
use Rattle.sheet.proofs.Bytes.{shaped-long}
use Rattle.sheet.proofs.opening.open.Goals as goal

pub judge_order-requires : goal.judge_order-requires
judge_order-requires c = shaped-long _ (search rules)
