-- The part is cut where the chunk stands. Assumes nothing.
use native.Mathlib.Omega.{arith}
use Rattle.places.proofs.Chunks.{inside, small, lent_is}
use Rattle.places.proofs.heap.chunk.Goals as goal

pub slice_bounds-result-end : goal.slice_bounds-result-end
slice_bounds-result-end c =
    omega (
      arith,
      inside c.args.heap.now c.args.g c.args.i c.chunk_place-at.result
          c.requires.lawful c.requires.heap_len c.requires.i_lt_count c.chunk_place-at.ensures,
    )

pub returns : goal.returns
returns c =
    lent_is _ _ _ _ c.requires.lawful c.requires.heap_len c.requires.i_lt_count c.chunk_place-at.ensures
