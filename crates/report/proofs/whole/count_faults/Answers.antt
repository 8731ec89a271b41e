-- The faults of the rows passed are counted. Assumes nothing.
use mathlib.Core.Path.{sym}
use Prim.Native.Nat.{ℕ}
use native.Mathlib.Numerals.{add-one}
use native.Mathlib.Omega.{arith}
use borrow.Author.Rules.{rules}
use Rattle.words.proofs.Sums.{total-zero, total-suc}
use Rattle.lines.specs.Text.{fault_of}
use Rattle.report.specs.Rows.{row_number}
use Rattle.report.proofs.whole.count_faults.Goals as goal

pub loop-k-init : goal.loop-k-init
loop-k-init c = record { few = search rules; are = sym (total-zero (λ (k : ℕ). fault_of (row_number c.args.rows.now k))) }

pub loop-k-preserved : goal.loop-k-preserved
loop-k-preserved c =
    record {
      few = omega (arith, c.fault-faults.ensures.small, c.loop-k.invariant.few);
      are = rw (add-one, total-suc) (omega (arith, c.fault-faults.ensures.is, c.loop-k.invariant.are));
    }
