-- The lines of the batches passed are put, and the faults among them counted. Assumes nothing.
use mathlib.Core.Path.{◌≡◌}
use Prim.Native.Nat.{◌+◌, ◌*◌, ◌-◌, ◌≤◌}
use Rattle.lines.specs.Text.{lines_of, faults_in, header_most, line_most}
use Rattle.lines.specs.Writer.{Put}
use Rattle.verdicts.specs.Marked.{image_marked}
use Rattle.report.specs.Answer.{number_of, value_of}
use Rattle.report.proofs.whole.put_text.Given as goal

abbrev pub invariant-loop-i : goal.invariant-loop-i
invariant-loop-i l = record {
  within : l.i ≤ l.n;
  few : l.faults ≤ l.i;
  short : l.writer.at ≤ header_most + l.i * line_most;
  counted : l.faults ≡ faults_in (number_of (image_marked l.image)) l.i;
  put : Put l.initial.writer l.writer (lines_of (number_of (image_marked l.image)) (value_of (image_marked l.image)) l.i);
}

abbrev pub decreases-loop-i : goal.decreases-loop-i
decreases-loop-i l = l.n - l.i
