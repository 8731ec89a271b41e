-- The coded size is in R1, and the guard byte stands at it. Assumes nothing.
use Rattle.chunks.proofs.chunk.write_guarded.Goals as goal

pub returns : goal.returns
returns c =
    rw (c.write.ensures, c.encode.ensures)
