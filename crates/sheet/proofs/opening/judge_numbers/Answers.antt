-- Numbers that pass the test are lawful. Assumes nothing.
use Rattle.std.proofs.Common.{rules}
use Rattle.geometry.proofs.Sheets.{lawful_known}
use Rattle.sheet.proofs.opening.judge_numbers.Goals as goal

pub measure-requires : goal.measure-requires
measure-requires c = lawful_known _ (search rules)
