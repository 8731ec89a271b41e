-- The eight fields are tested where each stands behind the one before. Assumes nothing.
use Rattle.sheet.proofs.Bytes.{eight}
use Rattle.sheet.proofs.fields.has_eight.Goals as goal

pub returns : goal.returns
returns c =
    eight c.field_is.ensures c.field_is-2.ensures c.field_is-3.ensures c.field_is-4.ensures
    c.field_is-5.ensures c.field_is-6.ensures c.field_is-7.ensures c.field_is-8.ensures
