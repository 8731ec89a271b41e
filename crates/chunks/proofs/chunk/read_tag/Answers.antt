-- The two words are read where the tag stands. Assumes nothing.
use Rattle.chunks.specs.Chunk.{tag_at}
use Rattle.chunks.proofs.chunk.read_tag.Goals as goal

pub returns : goal.returns
unfolding tag_at
returns c = rw (c.read_u32.ensures, c.read_u32-2.ensures)
