-- The loop's invariant: the first k eights are filled. Assumes nothing.
use Rattle.std.proofs.Common.{refl, arith}
use Rattle.runs.proofs.Runs.{fill_more}
use Rattle.runs.proofs.run.fill.Goals as goal

pub loop-k-preserved : goal.loop-k-preserved
loop-k-preserved c = fill_more _ _ _ _ _ _ 8 _ _ _ c.loop-k.invariant c.write.ensures c.twice-two.ensures refl (omega arith) (omega arith)
