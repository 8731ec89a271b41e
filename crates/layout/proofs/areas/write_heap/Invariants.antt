-- The chunks passed are written. Assumes nothing.
use mathlib.Core.Path.{◌≡◌}
use lib.Seq.{sets}
use Rattle.words.specs.Word.{flat}
use Rattle.layout.specs.Layout.{laid_chunk}
use Rattle.layout.proofs.areas.write_heap.Given as goal

abbrev pub invariant-loop-i : goal.invariant-loop-i
invariant-loop-i l = l.heap ≡ sets l.initial.heap 0 (flat l.i (laid_chunk l.g))
