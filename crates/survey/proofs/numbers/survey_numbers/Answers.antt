-- The area has a byte for each of 512 places, and a sheet no more than those. Assumes nothing.
use mathlib.Core.Path.{sym, ◌∙◌}
use borrow.Author.Rules.{rules}
use lib.ListN.{length}
use Rattle.geometry.proofs.Sheets.{lawful_known}
use Rattle.survey.proofs.Tables.{part_long, survey_shut, survey_opened}
use Rattle.survey.proofs.numbers.survey_numbers.Goals as goal

pub returns-in_err-image : goal.returns-in_err-image
returns-in_err-image c =
    rw
    (survey_shut c.args.profile c.args.image.now _ c.args.magazines.now c.args.rows.now (length c.args.log.now) c.args.chain.now
    c.open_image_with_log.ensures.sheet _ c.in_err-image.was)
    (search rules)

pub slice_bounds-marks-end : goal.slice_bounds-marks-end
slice_bounds-marks-end c = (lawful_known _ c.in_ok-image.image.law).sizes.few

pub slice_bounds-fill_both-end : goal.slice_bounds-fill_both-end
slice_bounds-fill_both-end c = sym (part_long _ (lawful_known _ c.in_ok-image.image.law).sizes.few)

pub fill_both-requires : goal.fill_both-requires
fill_both-requires c = part_long _ (lawful_known _ c.in_ok-image.image.law).sizes.few

pub returns : goal.returns
returns c =
    c.fill_both.ensures
    ∙ sym
    (survey_opened c.args.profile c.args.image.now _ c.args.magazines.now c.args.rows.now (length c.args.log.now) c.args.chain.now
    c.open_image_with_log.ensures.sheet _ c.in_ok-image.was c.in_ok-image.ensures.areas)
