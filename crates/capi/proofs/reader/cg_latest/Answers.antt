-- A row and a record have small numbers. Assumes nothing.
use mathlib.Core.Path.{sym}
use native.Mathlib.Omega.{arith}
use Rattle.transactions.proofs.Latests.{row_known, record_known}
use Rattle.capi.proofs.reader.cg_latest.Goals as goal

pub overflow_cast-k : goal.overflow_cast-k
overflow_cast-k c = omega (arith, (row_known _ _ _ _ _ _ (sym (rw c.in-Ok-Row.field-0-is at c.in-Ok-Row.ensures))).1)

pub overflow_cast-j : goal.overflow_cast-j
overflow_cast-j c = omega (arith, (record_known _ _ _ _ _ _ (sym (rw c.in-Ok-Record.field-0-is at c.in-Ok-Record.ensures))).1)

pub overflow_add-j : goal.overflow_add-j
overflow_add-j c = omega (arith, (record_known _ _ _ _ _ _ (sym (rw c.in-Ok-Record.field-0-is at c.in-Ok-Record.ensures))).1)
