-- The loop's invariant: where nothing was gathered, the first i bytes repeat the word. Assumes nothing.
use Rattle.std.proofs.Common.{◌≡◌, ◌≤◌, ◌-◌, ◌%◌}
use Rattle.words.specs.Word.{part}
use Rattle.runs.specs.Run.{repeated}
use Rattle.runs.proofs.eight.alike_blocks.Given as goal

abbrev pub invariant-loop-i : goal.invariant-loop-i
invariant-loop-i l = record {
  within : l.i ≤ l.whole;
  blocks : l.i % 32 ≡ 0;
  same : l.a ≡ 0 → l.b ≡ 0 → l.c ≡ 0 → l.d ≡ 0 → part l.s l.at l.i ≡ repeated l.i l.fn.w;
}

abbrev pub decreases-loop-i : goal.decreases-loop-i
decreases-loop-i l = l.whole - l.i
