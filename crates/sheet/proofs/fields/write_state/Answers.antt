-- Three fields in a row. Assumes nothing.
use mathlib.Core.Path.{refl, sym, ◌∙◌}
use Rattle.words.proofs.Std.{bytes_high}
use Rattle.sheet.proofs.Bytes.{fields-run, one_byte}
use Rattle.sheet.proofs.fields.write_state.Goals as goal

pub returns : goal.returns
returns c =
    rw (← c.number_of.ensures)
    (fields-run _ 36 43 48 7 8 9 4 2 1 _ _ _ refl refl (c.to_be_bytes.ensures ∙ sym (bytes_high 4 _))
    (c.to_be_bytes-2.ensures ∙ sym (bytes_high 2 _)) (one_byte _ c.number_of.type_inv)
    c.write_field.ensures c.write_field-2.ensures c.write_field-3.ensures)
