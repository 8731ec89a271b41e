-- The findings of the buffers judged so far stand at their places, and every other row is as it was. Assumes nothing.
use Rattle.std.specs.Prelude.{◌≡◌}
use Rattle.verdicts.specs.Marked.{image_marked}
use Rattle.image.specs.Inspect.{filled, finding_of}
use Rattle.image.proofs.inspect.fill.Given as goal

abbrev pub invariant-loop-i : goal.invariant-loop-i
invariant-loop-i l = l.rows ≡ filled (finding_of (image_marked l.fn.image)) l.initial.rows l.i
