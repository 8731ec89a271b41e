-- The run is the whole slice, or nothing is written. Assumes nothing.
use mathlib.Core.Path.{sym}
use borrow.Author.Tests.{eq-eqb, ne_eqb}
use Rattle.timed.proofs.Filled.{high_bytes, filled-whole, filled_none}
use Rattle.timed.proofs.run.timed_fill.Goals as goal

pub returns-then-len-ne0 : goal.returns-then-len-ne0
returns-then-len-ne0 c = record { value = sym (ne_eqb _ 0 c.if-len-ne0.true); s_after = filled_none _ _ c.if-len-ne0.true }

pub returns : goal.returns
returns c =
    let left = c.if-len-ne0.false in
    record { value = sym (eq-eqb _ 0 left); s_after = rw (← high_bytes c.args.w, ← c.to_be_bytes.ensures) (filled-whole _ _ _ left c.fill.ensures) }
