-- The faults of the rows passed are counted. Assumes nothing.
use mathlib.Core.Path.{◌≡◌}
use Prim.Native.Nat.{◌≤◌}
use Rattle.lines.specs.Text.{faults_in}
use Rattle.report.specs.Rows.{row_number}
use Rattle.report.proofs.whole.count_faults.Given as goal

abbrev pub invariant-loop-k : goal.invariant-loop-k
invariant-loop-k l = record { few : l.faults ≤ l.k; are : l.faults ≡ faults_in (row_number l.rows) l.k }
