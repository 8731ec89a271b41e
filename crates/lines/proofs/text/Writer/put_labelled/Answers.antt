-- The word is put, and the number behind it. Assumes nothing.
use Rattle.lines.proofs.Texts.{put_then}
use Rattle.lines.proofs.text.Writer.put_labelled.Goals as goal

pub returns : goal.returns
returns c = put_then c.put.ensures c.put_field.ensures.put
