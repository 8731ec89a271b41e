-- One more finding. Assumes nothing.
use native.Mathlib.Numerals.{add-one}
use Rattle.tags.proofs.Verdicts.{told_back}
use Rattle.image.proofs.inspect.fill.Goals as goal

pub loop-i-preserved : goal.loop-i-preserved
loop-i-preserved c = rw (add-one, ← c.loop-i.invariant, c.from-verdict.ensures, c.judge_buffer.ensures, told_back)
