-- A tag, a length and a body in a row. Assumes nothing.
use native.Mathlib.Omega.{arith}
use Rattle.sheet.proofs.Bytes.{field_run}
use Rattle.sheet.proofs.fields.write_field.Goals as goal

pub returns : goal.returns
returns g c =
    field_run _ _ _ _ _ _ _ _ _ c.write_u8.ensures c.write_u16.ensures c.copy_from_slice.ensures.after (omega arith) (omega arith) c.requires.in_bounds
