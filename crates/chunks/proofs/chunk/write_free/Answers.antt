-- It is the free fill, both redzone words and the free tag. Assumes nothing.
use Rattle.chunks.specs.Chunk.{free_chunk}
use Rattle.chunks.proofs.chunk.write_free.Goals as goal

pub returns : goal.returns
unfolding free_chunk
returns c = rw (c.write.ensures, c.new-tag.ensures)
