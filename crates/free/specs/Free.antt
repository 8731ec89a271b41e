-- Free. Assumes nothing.
use Rattle.tags.specs.declared.refusal.Refusal.{Refusal}
use Rattle.held.specs.declared.Holding.{Holding}
use Rattle.std.specs.Prelude.{Bool, true, false, cond, ℕ, eqb, Result, Ok, Err}
use Rattle.std.proofs.lemmas.List.Edits.{sets}
use Rattle.tags.specs.Refusal.{done}
use Rattle.tags.specs.declared.format.Profile.{Profile}
use Rattle.tags.specs.declared.refusal.Refusal.TheVariants.{OtherGrant}
use Rattle.chunks.specs.Chunk.{free_chunk}
use Rattle.chunks.specs.declared.chunk.Grant.{Grant}
use Rattle.chunks.specs.declared.chunk.Grant.TheVariants.{Whole, Sized}
use Rattle.area.specs.Record.{with_next, stamped}
use Rattle.area.specs.declared.record.Stamp.{Stamp}
use Rattle.sheet.specs.Areas.{Areas, areas, Outcome, outcome, refused_with, opening, by_image, by_somebody}
use Rattle.sheet.specs.Fields.{with_head}
use Rattle.places.specs.Spot.{chunk_start, record_start}
use Rattle.places.specs.declared.spot.Spot.{Spot}
use Rattle.held.specs.Held.{held_of}

-- the same size, or whole both
abbrev pub same_grant : Grant → Grant → Bool
same_grant Whole Whole = true
same_grant Whole (Sized t) = false
same_grant (Sized s) Whole = false
same_grant (Sized s) (Sized t) = eqb s t

-- E6, X9 (the grant that is named is not the one found)
abbrev pub free_test : Grant → Result Holding Refusal → Result Holding Refusal
free_test q (Ok p) = cond (same_grant p.grant q) (Ok p) (Err OtherGrant)
free_test q (Err why) = Err why

-- E6 (free), after E3 with X13
unfoldable pub free_plan : Profile → Areas → ℕ → Grant → ℕ → Result Holding Refusal
free_plan profile a address q thread =
    by_image (opening profile a) a (λ m. by_somebody thread (free_test q (held_of m address)) Err) Err

-- K7 (what free writes): the free chunk, the record's next word, stamp and thread, the new head
unfoldable pub freed_areas : Areas → Stamp → Spot → Areas
freed_areas a s p =
    areas (with_head a.sheet (record_start p))
    (sets a.heap (chunk_start p) (free_chunk p.sheet.format p.sheet.size (record_start p)))
    (stamped p.sheet.format (with_next p.sheet.format a.records p.own p.sheet.head) p.own s)

-- K7 (free), E1 (a refusal): by its plan
abbrev pub free_result : Areas → Stamp → Result Holding Refusal → Outcome (Result ℕ Refusal)
free_result a s (Ok p) = outcome done (freed_areas a s p.spot)
free_result a s (Err why) = refused_with (Err why) a

-- K7, E6 (free)
unfoldable pub free_of : Profile → Areas → ℕ → Grant → Stamp → Outcome (Result ℕ Refusal)
free_of profile a address q s = free_result a s (free_plan profile a address q s.thread)
