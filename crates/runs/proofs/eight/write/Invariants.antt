-- The loop's invariant: the first j bytes are written. Assumes nothing.
use Rattle.std.proofs.Common.{◌≡◌, take}
use lib.Seq.{sets}
use Rattle.runs.proofs.eight.write.Given as goal

abbrev pub invariant-loop-j : goal.invariant-loop-j
invariant-loop-j l = l.s ≡ sets l.initial.s l.at (take l.j l.eight)
