-- The loop's invariant: no byte before i differs. Assumes nothing.
use Rattle.std.proofs.Common.{◌≡◌, drop}
use Rattle.words.specs.Word.{part}
use Rattle.runs.specs.Run.{repeated, difference_from, difference}
use Rattle.runs.proofs.run.difference_by_bytes.Given as goal

abbrev pub invariant-loop-i : goal.invariant-loop-i
invariant-loop-i l =
    difference_from l.i (drop l.i (part l.s l.at l.len)) (drop l.i (repeated l.len l.w)) ≡ difference (part l.s l.at l.len) (repeated l.len l.w)
