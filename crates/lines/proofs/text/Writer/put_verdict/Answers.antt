-- The index is put, and the rest of the line behind it, by the tests of the definition. Assumes nothing.
use mathlib.Core.Path.{◌≡◌, sym, ◌∙◌}
use mathlib.Core.Bool.{Bool, cond}
use mathlib.Core.List.{◌++◌}
use Prim.Native.Nat.{ℕ}
use borrow.Author.Rules.{rules}
use Rattle.lines.specs.Text.{ascii, decimal_of, field_of, has_offset, fault_line_of, line_of}
use Rattle.lines.proofs.Texts.{put_then, put_both}
use Rattle.lines.proofs.text.Writer.put_verdict.Goals as goal

-- the line of a fault, by whether it has an offset
fault_line : (i number value : ℕ) (b : Bool) → has_offset number ≡ b
    → fault_line_of i number value
    ≡ cond b (field_of i " fault " ++ field_of number " " ++ field_of value "\n") (field_of i " fault " ++ field_of number "\n")
unfolding fault_line_of
fault_line i number value b e = rw e

pub returns-in-0 : goal.returns-in-0
unfolding line_of
returns-in-0 c = rw c.in-0.is (put_then c.put_decimal.ensures.put c.put.ensures)

pub returns-in-1 : goal.returns-in-1
unfolding line_of
returns-in-1 c = rw c.in-1.is (put_then c.put_decimal.ensures.put c.put-in-1.ensures)

pub returns-in-2 : goal.returns-in-2
unfolding line_of
returns-in-2 c =
    rw c.in-2.is (put_both (decimal_of c.args.i) (ascii " allocated ") (field_of c.args.value "\n") c.put_decimal.ensures.put c.put_labelled.ensures)

pub returns-in-3 : goal.returns-in-3
unfolding line_of
returns-in-3 c = rw c.in-3.is (put_then c.put_decimal.ensures.put c.put-in-3.ensures)

pub returns-then-has_offset : goal.returns-then-has_offset
unfolding line_of
returns-then-has_offset c =
    let line : line_of c.args.i c.args.number c.args.value ≡ fault_line_of c.args.i c.args.number c.args.value = search rules in
    let index = put_both (decimal_of c.args.i) (ascii " fault ") (field_of c.args.number " ") c.put_decimal.ensures.put
    (put_then c.put-in_default.ensures c.put_field.ensures.put) in
    rw (line, fault_line _ _ _ _ (sym c.has_offset.ensures ∙ c.if-has_offset.true)) (put_then index c.put_field-then-has_offset.ensures.put)

pub returns-else-has_offset : goal.returns-else-has_offset
unfolding line_of
returns-else-has_offset c =
    let line : line_of c.args.i c.args.number c.args.value ≡ fault_line_of c.args.i c.args.number c.args.value = search rules in
    rw (line, fault_line _ _ _ _ (sym c.has_offset.ensures ∙ c.if-has_offset.false))
    (put_both (decimal_of c.args.i) (ascii " fault ") (field_of c.args.number "\n") c.put_decimal.ensures.put
    (put_then c.put-in_default.ensures c.put_field-else-has_offset.ensures.put))
