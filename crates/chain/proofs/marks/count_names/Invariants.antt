-- The loop's invariant: each byte says how many of the records passed name its buffer. Assumes nothing.
use Rattle.chain.proofs.Counts.{Counted}
use Rattle.chain.proofs.marks.count_names.Given as goal

abbrev pub invariant-loop-j : goal.invariant-loop-j
invariant-loop-j l = Counted l.g l.records l.j l.marks
