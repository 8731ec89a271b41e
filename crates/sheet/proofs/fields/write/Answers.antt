-- Three times three fields in a row are the sheet. Assumes nothing.
use Rattle.sheet.proofs.Bytes.{sheet-run}
use Rattle.sheet.proofs.fields.write.Goals as goal

pub returns : goal.returns
returns c =
    sheet-run c.args.g _ _ _ _ c.requires.s_len c.write_addresses.ensures c.write_sizes.ensures c.write_state.ensures
