-- The walk calls itself with one record fewer that is not met yet. Assumes nothing.
use Rattle.chain.specs.Walk.{unmet}
use Rattle.chain.proofs.walk.+walk.Given as goal

abbrev pub decreases-walk : goal.decreases-walk
decreases-walk l = unmet l.marks.now
