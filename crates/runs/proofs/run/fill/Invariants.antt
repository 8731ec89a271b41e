-- The loop's invariant: the first k eights are filled. Assumes nothing.
use Rattle.std.proofs.Common.{◌≡◌, ◌*◌}
use lib.Seq.{sets}
use Rattle.runs.specs.Run.{repeated}
use Rattle.runs.proofs.run.fill.Given as goal

abbrev pub invariant-loop-k : goal.invariant-loop-k
invariant-loop-k l = l.s ≡ sets l.initial.s l.at (repeated (l.k * 8) l.fn.w)
