-- The area has a byte for each of 512 places, and a sheet no more than those. Assumes nothing.
use mathlib.Core.Path.{sym, ◌∙◌}
use borrow.Author.Rules.{rules}
use Rattle.geometry.proofs.Sheets.{lawful_known}
use Rattle.survey.proofs.Tables.{part_long, tabulate_shut, tabulate_opened}
use Rattle.survey.proofs.table.tabulate.Goals as goal

pub returns-in-Err : goal.returns-in-Err
returns-in-Err c =
    rw (tabulate_shut c.args.profile c.args.image.now _ c.args.magazines.now c.args.rows.now c.open_image.ensures.sheet _ c.in-Err.is)
    (search rules)

pub slice_bounds-marks-end : goal.slice_bounds-marks-end
slice_bounds-marks-end c = (lawful_known _ c.in-Ok.image.law).sizes.few

pub slice_bounds-fill_table-end : goal.slice_bounds-fill_table-end
slice_bounds-fill_table-end c = sym (part_long _ (lawful_known _ c.in-Ok.image.law).sizes.few)

pub fill_table-requires : goal.fill_table-requires
fill_table-requires c = part_long _ (lawful_known _ c.in-Ok.image.law).sizes.few

pub returns : goal.returns
returns c =
    c.fill_table.ensures
    ∙ sym
    (tabulate_opened c.args.profile c.args.image.now _ c.args.magazines.now c.args.rows.now c.open_image.ensures.sheet _ c.in-Ok.is
    (rw c.in-Ok.is at c.open_image.ensures.areas))
