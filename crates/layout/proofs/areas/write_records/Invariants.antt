-- The records passed are written. Assumes nothing.
use mathlib.Core.Path.{◌≡◌}
use lib.Seq.{sets}
use Rattle.words.specs.Word.{flat}
use Rattle.layout.specs.Layout.{laid_record}
use Rattle.layout.proofs.areas.write_records.Given as goal

abbrev pub invariant-loop-i : goal.invariant-loop-i
invariant-loop-i l = l.records ≡ sets l.initial.records 0 (flat l.i (laid_record l.g))
