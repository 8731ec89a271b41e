-- The loop's invariant: every word passed is a buffer's, and each byte says how often its buffer is listed in them. Assumes nothing.
use Rattle.std.proofs.Common.{◌≡◌, drop}
use Rattle.sheet.specs.Areas.{all_buffers}
use Rattle.chain.proofs.Counts.{Listed}
use Rattle.chain.proofs.marks.count_listed.Given as goal

abbrev pub invariant-loop-word : goal.invariant-loop-word
invariant-loop-word l =
    (all_buffers l.g l.magazines ≡ all_buffers l.g (drop l.word-index l.magazines))
    × Listed l.g l.magazines l.word-index l.initial.marks l.marks
