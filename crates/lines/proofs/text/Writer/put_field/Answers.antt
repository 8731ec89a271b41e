-- The number is put, and the word behind it. Assumes nothing.
use Rattle.lines.proofs.Texts.{put_then}
use Rattle.lines.proofs.text.Writer.put_field.Goals as goal

pub returns-clause-put : goal.returns-clause-put
returns-clause-put c = put_then c.put_decimal.ensures.put c.put.ensures
