-- The lines of the rows passed are put. Assumes nothing.
use Prim.Native.Nat.{ℕ, ◌+◌}
use native.Mathlib.Numerals.{add-one}
use native.Mathlib.Omega.{arith}
use borrow.Author.Rules.{rules}
use Rattle.words.proofs.Parts.{flat_nil, flat-suc}
use Rattle.lines.specs.Text.{line_of}
use Rattle.lines.proofs.Texts.{put_none, put_then}
use Rattle.report.specs.Rows.{row_number, row_value}
use Rattle.report.proofs.whole.put_rows.Goals as goal

pub loop-k-init : goal.loop-k-init
loop-k-init c =
    let none = flat_nil (λ (k : ℕ). line_of (c.args.first + k) (row_number c.args.rows.now k) (row_value c.args.rows.now k)) in
    record { put = rw none (put_none _); short = search rules }

pub loop-k-preserved : goal.loop-k-preserved
loop-k-preserved c =
    record {
      put = rw (add-one, flat-suc) (put_then c.loop-k.invariant.put c.put_line.ensures.put);
      short = omega (arith, c.put_line.ensures.short, c.loop-k.invariant.short);
    }
