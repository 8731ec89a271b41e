-- The list is refused, or the marks and the chain's ending are those of the image. Assumes nothing.
use mathlib.Core.Path.{sym, ap}
use borrow.Author.Rules.{rules}
use Rattle.sheet.specs.Areas.{image_listed}
use Rattle.geometry.proofs.Sheets.{lawful_known}
use Rattle.chain.specs.declared.walk.Walked.{Walked}
use Rattle.chain.proofs.Markings.{marked-chain}
use Rattle.image.proofs.Findings.{inspection_refused, inspection_short, inspection_whole}
use Rattle.image.proofs.inspect.inspect_open.Goals as goal

pub mark-requires-clause-lawful : goal.mark-requires-clause-lawful
mark-requires-clause-lawful c = lawful_known _ c.args.image.now.law

pub returns-in_err-walked : goal.returns-in_err-walked
returns-in_err-walked c =
    let m = image_listed c.args.image.now.sheet c.args.image.now.heap.now c.args.image.now.records.now c.args.magazines.now in
    rw (inspection_refused m c.args.rows.now _ c.in_err-walked.ensures.marked) (search rules)

pub invariant_of-marked : goal.invariant_of-marked
invariant_of-marked c = record {
  marked = c.in_ok-walked.ensures.marks;
  ends = ap (λ (w : Walked). w.ending) (marked-chain _ _ _ c.in_ok-walked.walked (sym c.in_ok-walked.ensures.marked));
}

pub returns-then-rows-n : goal.returns-then-rows-n
returns-then-rows-n c = sym (inspection_short _ _ c.in_ok-walked.walked c.in_ok-walked.ensures.marked c.if-rows-n.true)

pub returns : goal.returns
returns c = rw c.fill.ensures (sym (inspection_whole _ _ c.in_ok-walked.walked c.in_ok-walked.ensures.marked c.if-rows-n.false))
