-- The loop's invariant: no byte before i differs. Assumes nothing.
use Rattle.std.proofs.Common.{◌∙◌, sym, arith}
use Rattle.words.specs.Word.{part}
use Rattle.words.proofs.Parts.{part-lent, length_part}
use Rattle.runs.proofs.Runs.{length-repeated, get_or_repeated, differs_here, differs_later_on, differs_nowhere}
use Rattle.runs.proofs.run.difference_by_bytes.Goals as goal

pub returns-then-b-w : goal.returns-then-b-w
returns-then-b-w c =
    let k = length_part c.args.s.now c.args.at c.args.len (omega arith) in
    let n = length-repeated c.args.len c.args.w in
    let l = rw part-lent at c.loop-i-test.true in
    let ne = rw part-lent at c.if-b-w.true in
    sym (differs_here _ _ _ l (omega arith) (λ e. ne (e ∙ get_or_repeated _ _ _ (omega arith)))) ∙ c.loop-i.invariant

pub loop-i-preserved : goal.loop-i-preserved
loop-i-preserved c =
    let k = length_part c.args.s.now c.args.at c.args.len (omega arith) in
    let n = length-repeated c.args.len c.args.w in
    let l = rw part-lent at c.loop-i-test.true in
    let e = rw part-lent at c.if-b-w.false in
    sym (differs_later_on _ _ _ l (omega arith) (e ∙ sym (get_or_repeated _ _ _ (omega arith)))) ∙ c.loop-i.invariant

pub returns : goal.returns
returns c =
    let l = rw part-lent at c.loop-i-test.false in
    sym (differs_nowhere (part c.args.s.now c.args.at c.args.len) _ c.loop-i.i l) ∙ c.loop-i.invariant
