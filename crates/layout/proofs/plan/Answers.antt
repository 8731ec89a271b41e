-- Numbers that pass are those of the areas. Assumes nothing.
use Rattle.layout.proofs.Layouts.{planned_if}
use Rattle.layout.proofs.plan.Goals as goal

pub returns-clause-planned : goal.returns-clause-planned
returns-clause-planned c = rw c.judge_numbers.ensures (planned_if _ _ _ _ c.if-image-ne-LENGTH.false)
