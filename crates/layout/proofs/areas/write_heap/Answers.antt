-- One chunk more is written, and in the end all are. Assumes nothing.
use native.Mathlib.Omega.{arith}
use Rattle.words.proofs.Parts.{flat-none, flat_more, flat-whole}
use Rattle.layout.specs.Layout.{laid_areas, laid_chunk}
use Rattle.layout.proofs.Layouts.{laid_chunk_long}
use Rattle.layout.proofs.areas.write_heap.Goals as goal

pub loop-i-init : goal.loop-i-init
loop-i-init c = let g = c.args.g in flat-none g.chunk (laid_chunk g) (laid_chunk_long g c.requires.lawful) _

pub loop-i-preserved : goal.loop-i-preserved
loop-i-preserved c =
    let g = c.args.g in
    flat_more g.chunk (laid_chunk g) (laid_chunk_long g c.requires.lawful) _ _ c.loop-i.invariant
    (rw (c.write_free.ensures, c.record_address.ensures))

pub returns : goal.returns
unfolding laid_areas
returns c =
    let g = c.args.g in
    flat-whole g.chunk (laid_chunk g) (laid_chunk_long g c.requires.lawful) _ c.loop-i.i _ c.requires.heap_len c.loop-i.invariant (omega arith)
