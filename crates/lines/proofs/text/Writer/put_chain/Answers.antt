-- The pieces of the line stand one after the other, by how the chain ends, and the line is short. Assumes nothing.
use Prim.Native.Nat.{ℕ, ◌+◌, ◌≤◌, ◌<◌}
use native.Mathlib.Omega.{arith}
use Rattle.tags.specs.Ending.{ending_value}
use Rattle.tags.specs.declared.ending.Ending.{Ending}
use Rattle.lines.specs.Text.{ascii, decimal_of, field_of, chain_line_of, chain_most, most_buffers}
use Rattle.lines.specs.Writer.{Put}
use Rattle.lines.specs.declared.text.Writer.{Writer}
use Rattle.lines.proofs.Texts.{put_then, put_both, chain_line_short}
use Rattle.lines.proofs.text.Writer.put_chain.Goals as goal

-- the line that was put is short
short : {a b : Writer} (met : ℕ) (e : Ending) → met ≤ most_buffers → ending_value e < most_buffers → Put a b (chain_line_of met e)
    → record { put : Put a b (chain_line_of met e); short : b.at ≤ a.at + chain_most }
short met e h k w = record { put = w; short = omega (arith, w.wrote.ends, chain_line_short met e h k) }

pub returns-in-End : goal.returns-in-End
unfolding chain_line_of
returns-in-End c =
    short _ _ c.requires.met_le_most_buffers c.requires.ending_bound
    (rw c.in-End.is (put_then c.put.ensures (put_then c.put_decimal.ensures.put c.put-in-End.ensures)))

pub returns-in-Broken : goal.returns-in-Broken
unfolding chain_line_of
returns-in-Broken c =
    short _ _ c.requires.met_le_most_buffers c.requires.ending_bound
    (rw c.in-Broken.is (put_then c.put.ensures (put_then c.put_decimal.ensures.put c.put-in-Broken.ensures)))

pub returns-in-Again : goal.returns-in-Again
unfolding chain_line_of
returns-in-Again c =
    short _ _ c.requires.met_le_most_buffers c.requires.ending_bound
    (rw c.in-Again.is
    (put_both (ascii "chain ") (field_of c.args.met " again ") (field_of c.in-Again.r "\n") c.put.ensures
    (put_both (decimal_of c.args.met) (ascii " again ") (field_of c.in-Again.r "\n") c.put_decimal.ensures.put c.put_labelled.ensures)))
