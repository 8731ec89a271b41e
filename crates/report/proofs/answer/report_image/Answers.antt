-- An image whose list is not refused is reported by its marks. Assumes nothing.
use mathlib.Core.Path.{sym, ap, ◌∙◌}
use native.Mathlib.Omega.{arith}
use borrow.Author.Rules.{rules}
use Rattle.std.specs.Result.{result_ok}
use Rattle.chain.specs.declared.walk.Walked.{Walked}
use Rattle.chain.proofs.Markings.{marks_known}
use Rattle.geometry.proofs.Sheets.{lawful_known}
use Rattle.verdicts.specs.Marked.{image_with_list}
use Rattle.lines.proofs.Texts.{written_known}
use Rattle.report.specs.Answer.{report_text}
use Rattle.report.proofs.Reports.{report_text_short, image_refused, image_told}
use Rattle.report.proofs.answer.report_image.Goals as goal

pub mark-requires-clause-lawful : goal.mark-requires-clause-lawful
mark-requires-clause-lawful c = lawful_known _ c.args.image.now.law

pub returns-in_err-walked : goal.returns-in_err-walked
returns-in_err-walked c =
    rw (image_refused (image_with_list c.args.image.now c.args.magazines.now) c.args.output.now _ (sym c.mark.ensures.marked ∙ c.in_err-walked.was))
    (search rules)

pub invariant_of-marked : goal.invariant_of-marked
invariant_of-marked c =
    let k = marks_known _ _ _ _ _ _ c.in_ok-walked.was c.mark.ensures.marked c.mark.ensures.marks in
    record { marked = k.are; ends = ap (λ (w : Walked). w.ending) k.walked }

pub write_report-requires : goal.write_report-requires
write_report-requires c =
    ap (λ (w : Walked). w.met) (marks_known _ _ _ _ _ _ c.in_ok-walked.was c.mark.ensures.marked c.mark.ensures.marks).walked

pub returns-in_err-len : goal.returns-in_err-len
returns-in_err-len c =
    let m = image_with_list c.args.image.now c.args.magazines.now in
    rw
    (image_told m c.args.output.now _ (sym c.mark.ensures.marked ∙ c.in_ok-walked.was) c.write_report.ensures (sym c.in_err-len.was ∙ c.ok_or.ensures.value))
    (search rules)

pub overflow_cast-result : goal.overflow_cast-result
overflow_cast-result c =
    let m = image_with_list c.args.image.now c.args.magazines.now in
    let sizes = (lawful_known _ c.args.image.now.law).sizes in
    let written = c.ok_or.ensures.ok_part ∙ ap result_ok c.in_ok-len.was in
    let known = written_known (report_text m) c.args.output.now _ _ _ c.write_report.ensures written in
    omega (arith, known.0, report_text_short m sizes, sizes.few)

pub returns : goal.returns
returns c =
    let m = image_with_list c.args.image.now c.args.magazines.now in
    sym
    (image_told m c.args.output.now _ (sym c.mark.ensures.marked ∙ c.in_ok-walked.was) c.write_report.ensures (sym c.in_ok-len.was ∙ c.ok_or.ensures.value))
