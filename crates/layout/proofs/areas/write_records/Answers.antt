-- One record more is written, and in the end all are. Assumes nothing.
use native.Mathlib.Omega.{arith}
use native.Mathlib.Numerals.{add-one}
use Rattle.words.proofs.Parts.{flat-none, flat_more, flat-whole}
use Rattle.layout.specs.Layout.{laid_areas, laid_record}
use Rattle.area.specs.Record.{record_size}
use Rattle.layout.proofs.Layouts.{laid_record_long}
use Rattle.layout.proofs.areas.write_records.Goals as goal

pub loop-i-init : goal.loop-i-init
loop-i-init c = let g = c.args.g in flat-none (record_size g.format.profile) (laid_record g) (laid_record_long g) _

pub loop-i-preserved : goal.loop-i-preserved
loop-i-preserved c =
    let g = c.args.g in
    flat_more (record_size g.format.profile) (laid_record g) (laid_record_long g) _ _ c.loop-i.invariant
    (rw (c.write.ensures, c.buffer_address.ensures, c.link_to.ensures, add-one c.loop-i.i))

pub returns : goal.returns
unfolding laid_areas
returns c =
    let g = c.args.g in
    flat-whole (record_size g.format.profile) (laid_record g) (laid_record_long g) _ c.loop-i.i _ c.requires.records_len c.loop-i.invariant (omega arith)
