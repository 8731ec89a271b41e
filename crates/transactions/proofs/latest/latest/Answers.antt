-- The row or the record that is found lies in its area. Assumes nothing.
use mathlib.Core.Path.{sym}
use Rattle.transactions.proofs.Latests.{row_known, record_known}
use Rattle.transactions.proofs.latest.latest.Goals as goal

pub row-requires : goal.row-requires
row-requires c = (row_known _ _ _ _ _ _ (sym (rw c.in-Ok-Row.field-0-is at c.in-Ok-Row.ensures))).0

pub whole-requires : goal.whole-requires
whole-requires c = (record_known _ _ _ _ _ _ (sym (rw c.in-Ok-Record.field-0-is at c.in-Ok-Record.ensures))).0
