-- The chunk comes back in its place. Assumes nothing.
use Prim.Native.Nat.{ℕ}
use native.Mathlib.Omega.{arith}
use Rattle.chunks.specs.Chunk.{free_chunk}
use Rattle.chunks.proofs.Chunks.{length-free_chunk}
use Rattle.places.proofs.Chunks.{inside, small, lent-lawful, chunk_back}
use Rattle.places.proofs.heap.write_free.Goals as goal

pub write_free-requires : goal.write_free-requires
write_free-requires c =
    lent-lawful _ _ _ _ c.requires.lawful c.requires.heap_len c.requires.i_lt_count c.chunk_place-at.ensures

pub returns : goal.returns
returns c =
    let f = c.args.g.format in
    let a = c.args.record_at in
    chunk_back _ _ _ _ c.requires.lawful c.requires.heap_len c.requires.i_lt_count c.chunk_place-at.ensures (λ (n : ℕ). free_chunk f n a) _
    (λ n. length-free_chunk f n a) c.write_free.ensures

pub slice_bounds-write_free-end : goal.slice_bounds-write_free-end
slice_bounds-write_free-end c =
    omega (
      arith,
      inside c.args.heap.now c.args.g c.args.i c.chunk_place-at.result
          c.requires.lawful c.requires.heap_len c.requires.i_lt_count c.chunk_place-at.ensures,
    )
