-- The chunk comes back in its place. Assumes nothing.
use mathlib.Core.Path.{ap, ◌∙◌}
use Prim.Native.Nat.{ℕ}
use native.Mathlib.Omega.{arith}
use Rattle.chunks.specs.Chunk.{lawful_size, granted_chunk}
use Rattle.chunks.proofs.Chunks.{length-granted_chunk}
use Rattle.places.proofs.Chunks.{inside, small, lent_size, lent-lawful, chunk_back}
use Rattle.places.proofs.heap.write_granted.Goals as goal

pub write_granted-requires : goal.write_granted-requires
write_granted-requires c =
    record {
      chunk_length = lent-lawful _ _ _ _ c.requires.lawful c.requires.heap_len c.requires.i_lt_count c.chunk_place-at.ensures;
      grant_value = ap (λ (n : ℕ). lawful_size c.args.g.format.profile n c.args.grant)
          (lent_size _ _ _ _ c.requires.lawful c.requires.heap_len c.requires.i_lt_count c.chunk_place-at.ensures) ∙ c.requires.grant_value;
    }

pub returns : goal.returns
returns c =
    let f = c.args.g.format in
    let a = c.args.record_at in
    let q = c.args.grant in
    chunk_back _ _ _ _ c.requires.lawful c.requires.heap_len c.requires.i_lt_count c.chunk_place-at.ensures (λ (n : ℕ). granted_chunk f n a q) _
    (λ n. length-granted_chunk f n a q) c.write_granted.ensures

pub slice_bounds-write_granted-end : goal.slice_bounds-write_granted-end
slice_bounds-write_granted-end c =
    omega (
      arith,
      inside c.args.heap.now c.args.g c.args.i c.chunk_place-at.result
          c.requires.lawful c.requires.heap_len c.requires.i_lt_count c.chunk_place-at.ensures,
    )
