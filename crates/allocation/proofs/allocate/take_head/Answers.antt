-- The head's record and the buffer that it names are the image's. Assumes nothing.
use mathlib.Core.Path.{sym, ap, ◌∙◌}
use Prim.Native.Nat.{◌<◌}
use lib.ListN.{length}
use Rattle.area.proofs.Places.{place_found}
use Rattle.places.proofs.Chunks.{chunk_long}
use Rattle.sheet.proofs.Opens.{open_known}
use Rattle.allocation.proofs.allocate.take_head.Goals.{In-Some, In-Some-find_buffer}
use Rattle.allocation.proofs.allocate.take_head.Goals as goal

own : (c : In-Some) → c.in-Some.own < c.args.image.now.sheet.count
own c = (place_found _ _ _ _ _ (sym c.find_record.ensures ∙ c.in-Some.is)).0

named : (c : In-Some-find_buffer) → c.in-Some-find_buffer.buffer < c.args.image.now.sheet.count
named c = (place_found _ _ _ _ _ (sym c.find_buffer.ensures ∙ c.in-Some-find_buffer.is)).0

pub buffer-requires : goal.buffer-requires
buffer-requires c =
    let o = open_known c.args.image.now in
    record { lawful = o.law; records_len = o.records_long; j_lt_count = own (goal.at.buffer-requires c).In-Some }

pub chunk-requires : goal.chunk-requires
chunk-requires c =
    let o = open_known c.args.image.now in
    record { lawful = o.law; heap_len = o.heap_long; i_lt_count = named (goal.at.chunk-requires c).In-Some-find_buffer }

pub take_chunk-requires : goal.take_chunk-requires
take_chunk-requires c =
    let o = open_known c.args.image.now in
    let i = named (goal.at.take_chunk-requires c).In-Some-find_buffer in
    record { chunk_len = ap length c.chunk.ensures ∙ chunk_long _ _ _ o.law o.heap_long i; lawful = o.law }
