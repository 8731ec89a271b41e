-- The chain is walked into the marks, by which every buffer is judged, where the list is not refused and there is room. Assumes nothing.
use Rattle.std.specs.Prelude.{Ok}
use mathlib.Core.Path.{sym, ap, ◌∙◌}
use native.Mathlib.Omega.{arith}
use borrow.Author.Rules.{rules}
use Rattle.tags.specs.Filling.{filling}
use Rattle.chain.specs.declared.walk.Walked.{Walked}
use Rattle.chain.proofs.Markings.{marks_known}
use Rattle.geometry.proofs.Sheets.{lawful_known}
use Rattle.verdicts.specs.Marked.{image_with_list}
use Rattle.survey.specs.Table.{table_of}
use Rattle.survey.proofs.Tables.{tabulate_refused, tabulate_short, tabulate_filled}
use Rattle.survey.proofs.table.fill_table.Goals as goal

pub mark-requires-clause-lawful : goal.mark-requires-clause-lawful
mark-requires-clause-lawful c = lawful_known _ c.args.image.now.law

pub returns-in_err-walked : goal.returns-in_err-walked
returns-in_err-walked c =
    rw (tabulate_refused (image_with_list c.args.image.now c.args.magazines.now) c.args.rows.now _ (sym c.mark.ensures.marked ∙ c.in_err-walked.was))
    (search rules)

pub overflow_mul-count : goal.overflow_mul-count
overflow_mul-count c = let f = (lawful_known _ c.args.image.now.law).sizes.few in omega arith

pub returns-then-rows-count : goal.returns-then-rows-count
returns-then-rows-count c =
    sym
    (tabulate_short (image_with_list c.args.image.now c.args.magazines.now) c.args.rows.now _ (sym c.mark.ensures.marked ∙ c.in_ok-walked.was)
    c.if-rows-count.true)

pub invariant_of-marked : goal.invariant_of-marked
invariant_of-marked c =
    let k = marks_known _ _ _ _ _ _ c.in_ok-walked.was c.mark.ensures.marked c.mark.ensures.marks in
    record { marked = k.are; ends = ap (λ (w : Walked). w.ending) k.walked }

pub overflow_cast-result : goal.overflow_cast-result
overflow_cast-result c = let f = (lawful_known _ c.args.image.now.law).sizes.few in omega arith

pub returns : goal.returns
unfolding table_of
returns c =
    ap (filling (Ok c.args.image.now.sheet.count)) c.tell_buffers.ensures
    ∙ sym
    (tabulate_filled (image_with_list c.args.image.now c.args.magazines.now) c.args.rows.now _ (sym c.mark.ensures.marked ∙ c.in_ok-walked.was)
    c.if-rows-count.false)
