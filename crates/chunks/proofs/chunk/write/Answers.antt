-- The fill and the four words cover the chunk one after the other. Assumes nothing.
use native.Mathlib.Omega.{arith}
use Rattle.chunks.proofs.Chunks.{laid}
use Rattle.chunks.proofs.chunk.write.Goals as goal

pub returns : goal.returns
returns c =
    rw (← c.bytes.ensures)
    (laid _ _ _ _ _ _ _ _ _ _ _ _ (omega arith) c.fill.ensures c.write_u32.ensures c.write_u32-2.ensures c.write_u32-3.ensures
    c.write_u32-4.ensures)
