-- The lines of the rows passed are put. Assumes nothing.
use Prim.Native.Nat.{◌+◌, ◌*◌, ◌≤◌}
use Rattle.lines.specs.Text.{line_most}
use Rattle.lines.specs.Writer.{Put}
use Rattle.report.specs.Rows.{row_lines}
use Rattle.report.proofs.whole.put_rows.Given as goal

abbrev pub invariant-loop-k : goal.invariant-loop-k
invariant-loop-k l =
    record { put : Put l.initial.writer l.writer (row_lines l.rows l.first l.k); short : l.writer.at ≤ l.initial.writer.at + l.k * line_most }
