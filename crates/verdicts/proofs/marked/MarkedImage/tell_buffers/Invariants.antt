-- The loop's invariant: the numbers of the buffers passed are written. Assumes nothing.
use mathlib.Core.Path.{◌≡◌}
use lib.Seq.{sets}
use Rattle.words.specs.Word.{flat}
use Rattle.verdicts.specs.Marked.{image_marked}
use Rattle.verdicts.proofs.Rows.{row}
use Rattle.verdicts.proofs.marked.MarkedImage.tell_buffers.Given as goal

abbrev pub invariant-loop-k : goal.invariant-loop-k
invariant-loop-k l = l.rows ≡ sets l.initial.rows 0 (flat l.k (row (image_marked l.fn.self) l.from))
