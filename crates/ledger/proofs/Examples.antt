-- An image of two buffers, laid out under either profile in either order and run by evaluation: the claim is not empty. Under the kernel's profile the
-- buffers have 8 bytes, under userland's 16, so that the same requests fit behind the header. Assumes nothing.
use Rattle.std.specs.Prelude.{Result, Ok, Err, None, Some}
use Rattle.tags.specs.declared.refusal.Refusal.{Refusal}
use mathlib.Core.Path.{◌≡◌, refl}
use mathlib.Core.List.{List, [], ◌∷◌}
use Prim.Native.Nat.{ℕ, ◌+◌, ◌*◌}
use lib.Dec.{lit<}
use lib.ListN.{replicate}
use Rattle.words.specs.Word.{part, flat, turned, number, bytes_of, number_at}
use Rattle.words.specs.Native.{low_number, low_bytes}
use Rattle.words.specs.declared.word.Order.{Order}
use Rattle.words.specs.declared.word.Order.TheVariants.{HighFirst, LowFirst}
use Rattle.tags.specs.Format.{format_of, word_bytes}
use Rattle.tags.specs.declared.format.Profile.{Profile}
use Rattle.tags.specs.declared.format.Profile.TheVariants.{Kernel, Userland}
use Rattle.runs.specs.Run.{repeated, difference_from}
use Rattle.tags.specs.Tag.{tag_of, pattern_word, pattern_of}
use Rattle.tags.specs.SizeCode.{decoded_of}
use Rattle.chunks.specs.Chunk.{grant_fill, chunk_of, free_chunk, granted_chunk, tag_at}
use Rattle.chunks.specs.Header.{header_size, header_bytes, header_right}
use Rattle.chunks.specs.Judge.{free_verdict, zone_verdict, header_verdict, headed_verdict, sized_verdict, coded_verdict, allocated_verdict}
use Rattle.chunks.specs.declared.chunk.Grant.TheVariants as grant
use Rattle.sheet.specs.Areas.{Areas}
use Rattle.area.specs.Record.{record_size, stamp_of, record_bytes, with_next, stamped, record_word}
use Rattle.sheet.specs.Fields.{sheet_length, field_is, is_short, is_long, shaped, order_number, sheet_of, sheet_bytes, with_head}
use Rattle.geometry.specs.Limits.{sizes_lawful, bases_lawful, lawful}
use Rattle.sheet.specs.Opening.{measured, numbered, ordered, opened_of}
use Rattle.area.specs.Place.{place_of}
use Rattle.layout.specs.Layout.{link_to, laid_areas, lay_out_plan, lay_out_of}
use Rattle.geometry.specs.Sheet.{laid_sheet}
use Rattle.allocation.specs.Allocate.{taken_chunk, taken_head, taken_of, allocate_plan, granted_areas, allocate_of}
use Rattle.held.specs.Held.{held_chunk, held_of}
use Rattle.free.specs.Free.{free_plan, freed_areas, free_of}
use Rattle.client.specs.Store.{store_plan, stored_areas, store_of}
use Rattle.tags.specs.declared.refusal.Refusal.TheVariants.{NoSuchBuffer, NoRoom, BadSize, OtherGrant, NoThread}
use Rattle.tags.specs.Refusal.{done}
use Rattle.ledger.specs.Ledger.{Call, allocate, free, store, result_of, put, RunState, begun, run, Sound}
use Rattle.ledger.proofs.Theorem.{theorem}

-- the buffers' size, and the address of the second
size₀ : Profile → ℕ
size₀ p = 8 + header_size p

second₀ : Profile → ℕ
second₀ p = 4096 + size₀ p + 16

-- the areas before, of the lengths that lay out asks for
areas₀ : Profile → Areas
areas₀ p = record { sheet = replicate sheet_length 0; heap = replicate (2 * (size₀ p + 16)) 0; records = replicate (2 * record_size p) 0 }

-- the lay out is accepted
laid₀ : (p : Profile) (o : Order) → (lay_out_of (areas₀ p) (format_of p o) 64 4096 8192 (size₀ p) 2).answer ≡ done
unfolding size₀ areas₀ header_size record_size lay_out_plan lay_out_of measured numbered lawful sizes_lawful bases_lawful
laid₀ Kernel o = refl
laid₀ Userland o = refl

-- what a list of calls leaves, and what a call then answers
state₀ : Profile → Order → List Call → RunState
state₀ p o calls = run (format_of p o) (size₀ p) calls (begun (lay_out_of (areas₀ p) (format_of p o) 64 4096 8192 (size₀ p) 2).areas)

answer₀ : Profile → Order → List Call → Call → Result ℕ Refusal
answer₀ p o calls call = (result_of p call (state₀ p o calls).areas).answer

-- nobody asks for a buffer; a grant of 5 bytes, two bytes stored from offset 1 on, a store past the 5 bytes; nobody gives the buffer back; a whole grant
calls₀ : List Call
calls₀ =
    allocate (grant.Sized 5) (stamp_of 1 0)
    ∷ allocate (grant.Sized 5) (stamp_of 1 7)
    ∷ store 4096 1 (17 ∷ 18 ∷ [])
    ∷ store 4096 4 (17 ∷ 18 ∷ [])
    ∷ free 4096 (grant.Sized 5) (stamp_of 2 0)
    ∷ allocate grant.Whole (stamp_of 2 7)
    ∷ []

-- then the first buffer is given back
calls₁ : List Call
calls₁ = allocate (grant.Sized 5) (stamp_of 1 7) ∷ allocate grant.Whole (stamp_of 2 7) ∷ free 4096 (grant.Sized 5) (stamp_of 3 7) ∷ []

-- the first client's bytes: those of the fill, two of them stored
client₀ : Order → List ℕ
client₀ HighFirst = 0xba ∷ 17 ∷ 18 ∷ 0xfe ∷ 0xba ∷ []
client₀ LowFirst = 0xfe ∷ 17 ∷ 18 ∷ 0xba ∷ 0xfe ∷ []

-- what is evaluated: both are out, the first with the bytes stored between those of the fill; two are granted and none freed
Out : Profile → Order → Type 0
Out p o =
    ((state₀ p o calls₀).ledger.out 4096 ≡ Some (record { grant = grant.Sized 5; client = client₀ o }))
    × ((state₀ p o calls₀).ledger.out (second₀ p) ≡ Some (record { grant = grant.Whole; client = repeated (size₀ p) (word_bytes (format_of p o) grant_fill) }))
    × ((state₀ p o calls₀).ledger.allocations ≡ 2)
    × ((state₀ p o calls₀).ledger.frees ≡ 0)

-- there is no room for another; a size above the buffer's, a free with another grant and one of no buffer are refused; and nobody is refused before all of
-- these
Refuses : Profile → Order → Type 0
Refuses p o =
    (answer₀ p o calls₀ (allocate (grant.Sized 1) (stamp_of 4 7)) ≡ Err NoRoom)
    × (answer₀ p o calls₀ (allocate (grant.Sized 9) (stamp_of 4 7)) ≡ Err BadSize)
    × (answer₀ p o calls₀ (free 4096 (grant.Sized 6) (stamp_of 4 7)) ≡ Err OtherGrant)
    × (answer₀ p o calls₀ (free 4097 (grant.Sized 5) (stamp_of 4 7)) ≡ Err NoSuchBuffer)
    × (answer₀ p o calls₀ (allocate (grant.Sized 9) (stamp_of 4 0)) ≡ Err NoThread)
    × (answer₀ p o calls₀ (free 4097 (grant.Sized 6) (stamp_of 4 0)) ≡ Err NoThread)

-- after a free the buffer isn't out, and it is the one that is granted next
Back : Profile → Order → Type 0
Back p o =
    ((state₀ p o calls₁).ledger.out 4096 ≡ None)
    × ((state₀ p o calls₁).ledger.frees ≡ 1)
    × (answer₀ p o calls₁ (allocate (grant.Sized 8) (stamp_of 4 7)) ≡ Ok 4096)

evaluated : (p : Profile) (o : Order) → Out p o × Refuses p o × Back p o
unfolding size₀ second₀ areas₀ state₀ answer₀ calls₀ calls₁ client₀ Out Refuses Back run put lay_out_plan lay_out_of lawful sizes_lawful
    bases_lawful laid_areas sheet_bytes record_bytes flat link_to part turned number bytes_of low_number low_bytes number_at repeated
    difference_from tag_of pattern_word pattern_of decoded_of chunk_of free_chunk granted_chunk tag_at free_verdict zone_verdict sized_verdict
    allocated_verdict header_size header_bytes header_right header_verdict headed_verdict coded_verdict record_size with_next stamped field_is
    is_short is_long shaped order_number sheet_of with_head measured numbered ordered opened_of place_of record_word taken_chunk taken_head
    taken_of allocate_plan granted_areas allocate_of held_chunk held_of free_plan freed_areas free_of store_plan stored_areas store_of
evaluated Kernel HighFirst = ((refl, refl, refl, refl), (refl, refl, refl, refl, refl, refl), (refl, refl, refl))
evaluated Kernel LowFirst = ((refl, refl, refl, refl), (refl, refl, refl, refl, refl, refl), (refl, refl, refl))
evaluated Userland HighFirst = ((refl, refl, refl, refl), (refl, refl, refl, refl, refl, refl), (refl, refl, refl))
evaluated Userland LowFirst = ((refl, refl, refl, refl), (refl, refl, refl, refl, refl, refl), (refl, refl, refl))

-- the claim holds of this image and these calls
sound₀ : (p : Profile) (o : Order) → Sound (laid_sheet (format_of p o) 64 4096 8192 (size₀ p) 2) (state₀ p o calls₀)
unfolding state₀
sound₀ p o = theorem (areas₀ p) (format_of p o) 64 4096 8192 (size₀ p) 2 (lit< tt) (laid₀ p o) calls₀
