-- The row's number and the age are those of what is latest of the record and of the rows passed. Assumes nothing.
use Rattle.std.specs.Prelude.{◌≡◌, nat_lt}
use Rattle.std.specs.Bool.{then_some}
use Rattle.transactions.specs.Latest.{latest_row, first_best}
use Rattle.transactions.proofs.latest.latest_row.Given as goal

abbrev pub invariant-loop-k : goal.invariant-loop-k
invariant-loop-k l =
    record { row = then_some (nat_lt l.found l.n) l.found; age = l.least }
    ≡ latest_row l.f l.log l.record_at l.time (first_best l.fn.stamp l.time) l.k
