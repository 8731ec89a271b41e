-- The area has a byte for each of 512 places, and a sheet no more than those. Assumes nothing.
use mathlib.Core.Path.{sym, ◌∙◌}
use borrow.Author.Rules.{rules}
use lib.ListN.{length}
use Rattle.geometry.proofs.Sheets.{lawful_known}
use Rattle.report.proofs.Reports.{part_long, report_shut, report_opened}
use Rattle.report.proofs.answer.report.Goals as goal

pub returns-in_err-image : goal.returns-in_err-image
returns-in_err-image c =
    rw
    (report_shut c.args.profile c.args.image.now _ c.args.magazines.now (length c.args.log.now) c.args.output.now c.open_image_with_log.ensures.sheet _
    c.in_err-image.was)
    (search rules)

pub slice_bounds-marks-end : goal.slice_bounds-marks-end
slice_bounds-marks-end c = (lawful_known _ c.in_ok-image.image.law).sizes.few

pub slice_bounds-report_image-end : goal.slice_bounds-report_image-end
slice_bounds-report_image-end c = sym (part_long _ (lawful_known _ c.in_ok-image.image.law).sizes.few)

pub report_image-requires : goal.report_image-requires
report_image-requires c = part_long _ (lawful_known _ c.in_ok-image.image.law).sizes.few

pub returns : goal.returns
returns c =
    c.report_image.ensures
    ∙ sym
    (report_opened c.args.profile c.args.image.now _ c.args.magazines.now (length c.args.log.now) c.args.output.now c.open_image_with_log.ensures.sheet _
    c.in_ok-image.was c.in_ok-image.ensures.areas)
