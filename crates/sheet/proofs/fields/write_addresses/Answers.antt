-- Three fields in a row. Assumes nothing.
use mathlib.Core.Path.{refl, sym, ◌∙◌}
use Rattle.words.proofs.Std.{bytes_high}
use Rattle.sheet.proofs.Bytes.{fields-run}
use Rattle.sheet.proofs.fields.write_addresses.Goals as goal

pub returns : goal.returns
returns c =
    fields-run _ 0 7 14 1 2 3 4 4 4 _ _ _ refl refl (c.to_be_bytes.ensures ∙ sym (bytes_high 4 _))
    (c.to_be_bytes-2.ensures ∙ sym (bytes_high 4 _)) (c.to_be_bytes-3.ensures ∙ sym (bytes_high 4 _))
    c.write_field.ensures c.write_field-2.ensures c.write_field-3.ensures
