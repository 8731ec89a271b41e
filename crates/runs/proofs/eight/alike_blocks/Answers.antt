-- The loop's invariant: where nothing was gathered, the first i bytes repeat the word. Assumes nothing.
use Rattle.std.proofs.Common.{arith}
use Rattle.runs.proofs.Eights.{alike_none, same_block, or_none}
use Rattle.runs.proofs.eight.alike_blocks.Goals as goal

pub returns-then-unlike-ne0 : goal.returns-then-unlike-ne0
returns-then-unlike-ne0 c = alike_none _ _ _ _

pub loop-i-init : goal.loop-i-init
loop-i-init c = record { within = omega arith; blocks = omega arith; same = λ _ _ _ _. (alike_none _ _ 0 _).same }

pub loop-i-preserved : goal.loop-i-preserved
loop-i-preserved c = record {
  within = omega arith;
  blocks = omega arith;
  same = λ a b g d.
      let fa = or_none _ _ a in
      let fb = or_none _ _ b in
      let fc = or_none _ _ g in
      let fd = or_none _ _ d in
      same_block _ _ _ _ _ c.twice-eight.ensures (omega arith) (c.loop-i.invariant.same fa.0 fb.0 fc.0 fd.0)
      (c.unlike-a.ensures.same fa.1) (c.unlike-b.ensures.same fb.1) (c.unlike-c.ensures.same fc.1) (c.unlike-d.ensures.same fd.1);
}

pub returns-then-a-b-eq0 : goal.returns-then-a-b-eq0
returns-then-a-b-eq0 c =
    let abc = or_none _ _ c.if-a-b-eq0.true in
    let ab = or_none _ _ abc.0 in
    let one = or_none _ _ ab.0 in
    record { within = omega arith; eights = omega arith; same = c.loop-i.invariant.same one.0 one.1 ab.1 abc.1 }

pub returns : goal.returns
returns c = alike_none _ _ _ _
