-- The laws of a log. Assumes nothing.
use mathlib.Core.Path.{◌≡◌}
use mathlib.Core.Bool.{true, and-eq-true_iff}
use Prim.Native.Nat.{ℕ, ◌%◌, ◌≤◌}
use borrow.Author.Tests.{leb-true}
use lib.Dec.{eqb, leb}
use Rattle.history.specs.Log.{row_size, log_most, log_right}

-- a log is not long
pub log_most_lem : (l : ℕ) → log_right l ≡ true → l ≤ log_most
unfolding log_right
log_most_lem l e = leb-true l log_most ((and-eq-true_iff (eqb (l % row_size) 0) (leb l log_most)).0 e).1
