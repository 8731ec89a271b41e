-- The fewest digits that hold a number are its decimal without leading zeros, and at most 20. Assumes nothing.
use mathlib.Core.Path.{◌≡◌, sym, ap, ◌∙◌}
use Prim.Native.Nat.{suc}
use native.Mathlib.Omega.{arith}
use lib.ListN.{length, take}
use Rattle.lines.specs.Text.{decimal_of}
use Rattle.lines.proofs.Texts.{decimal_is, decimal_short}
use Rattle.lines.proofs.text.Writer.put_decimal.Goals.{After-decimal-k}
use Rattle.lines.proofs.text.Writer.put_decimal.Goals as goal

-- what was written to the start of the digits
text_is : (c : After-decimal-k) → take c.decimal-k.result c.decimal-k.new.out ≡ decimal_of c.args.n
text_is c =
    let n = c.args.n in
    c.decimal-k.ensures.digits ∙ sym (decimal_is (suc n) n c.decimal-k.result (omega arith) c.decimal-k.ensures.len)

pub put-requires : goal.put-requires
put-requires c =
    let short = decimal_short (suc c.args.n) c.args.n 19 (omega (arith, c.ranges.n.fits)) in
    omega (arith, ap length (text_is (goal.at.put-requires c).After-decimal-k), short)

pub returns-clause-put : goal.returns-clause-put
returns-clause-put c = rw (← text_is (goal.at.returns-clause-put c).After-decimal-k) c.put.ensures
