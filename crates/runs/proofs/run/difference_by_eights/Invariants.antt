-- The loop's invariant: the first k eights repeat the word. Assumes nothing.
use Rattle.std.proofs.Common.{◌≡◌, ◌*◌, None}
use Rattle.words.specs.Word.{part}
use Rattle.runs.specs.Run.{repeated, difference}
use Rattle.runs.proofs.run.difference_by_eights.Given as goal

abbrev pub invariant-loop-k : goal.invariant-loop-k
invariant-loop-k l = None ≡ difference (part l.s l.at (l.k * 8)) (repeated (l.k * 8) l.fn.w)
