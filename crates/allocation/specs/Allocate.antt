-- Allocate. Assumes nothing.
use Rattle.tags.specs.declared.refusal.Refusal.{Refusal}
use Rattle.std.specs.Prelude.{◌≡◌, true, cond, List, ℕ, eqb, Result, Ok, Err}
use Rattle.std.proofs.lemmas.List.Edits.{sets}
use Rattle.tags.specs.Tag.{pattern_of}
use Rattle.tags.specs.Verdict.{verdict_number, is_found_free}
use Rattle.tags.specs.declared.format.Profile.{Profile}
use Rattle.tags.specs.declared.tag.Pattern.{Pattern}
use Rattle.tags.specs.declared.tag.Pattern.TheVariants as pattern
use Rattle.tags.specs.declared.verdict.Verdict.{Verdict}
use Rattle.tags.specs.declared.verdict.Verdict.TheVariants as verdict
use Rattle.tags.specs.declared.refusal.Refusal.TheVariants.{NoRoom, BadSize, Damage, BrokenHead}
use Rattle.chunks.specs.Chunk.{tag_at, granted_chunk, lawful_size}
use Rattle.chunks.specs.Judge.{free_verdict}
use Rattle.chunks.specs.declared.chunk.Grant.{Grant}
use Rattle.area.specs.Place.{by_place}
use Rattle.area.specs.Record.{stamped, address_word, next_word}
use Rattle.area.specs.declared.record.Stamp.{Stamp}
use Rattle.sheet.specs.Areas.{Areas, areas, Outcome, outcome, refused_with, Image, opening, by_image, by_somebody, chunk_at}
use Rattle.sheet.specs.Fields.{with_head}
use Rattle.geometry.specs.Sheet.{buffer_of, record_of}
use Rattle.places.specs.Spot.{spot, chunk_start, buffer_start, Within}
use Rattle.places.specs.declared.spot.Spot.{Spot}

-- E5 (fill 25, redzone 26): a buffer that is found free is taken; any other verdict refuses
abbrev pub if_free : Verdict → Spot → Result Spot Refusal
if_free v p = cond (is_found_free (verdict_number v)) (Ok p) (Err (Damage v))

-- E5 (neither pattern 21, allocated pattern 24), then the free chunk's own bytes
abbrev pub taken_by : Pattern → List ℕ → Spot → Result Spot Refusal
taken_by pattern.Neither c p = Err (Damage verdict.BadTag)
taken_by pattern.Allocated c p = Err (Damage verdict.OnChain)
taken_by pattern.Free c p = if_free (free_verdict p.sheet.format c) p

-- E5 (T0 is not the head: 21), for the chunk c of the head record's buffer
unfoldable pub taken_chunk : List ℕ → Spot → Result Spot Refusal
taken_chunk c p =
    cond (eqb (tag_at p.sheet.format c).t0 p.sheet.head) (taken_by (pattern_of (tag_at p.sheet.format c)) c p) (Err (Damage verdict.BadTag))

-- E5 (the head is no record's address 29, its buffer address is no buffer's 20)
unfoldable pub taken_head : Image → Result Spot Refusal
taken_head m =
    by_place (record_of m.sheet m.sheet.head)
    (λ j. by_place (buffer_of m.sheet (address_word m.sheet.format m.records j)) (λ i. taken_chunk (chunk_at m i) (spot m.sheet i j))
    (Err (Damage verdict.NotOneRecord)))
    (Err BrokenHead)

-- E5 (X6, X5, then X7), in an image
unfoldable pub taken_of : Image → Grant → Result Spot Refusal
taken_of m q = cond (lawful_size m.sheet.format.profile m.sheet.size q) (cond (eqb m.sheet.head 0) (Err NoRoom) (taken_head m)) (Err BadSize)

-- E5 (allocate: X6, X5, X7), after E3 with X13
unfoldable pub allocate_plan : Profile → Areas → Grant → ℕ → Result Spot Refusal
allocate_plan profile a q thread = by_image (opening profile a) a (λ m. by_somebody thread (taken_of m q) Err) Err

-- K6 (what allocate writes): the granted chunk, the record's stamp and thread, the new head; the next word stays
unfoldable pub granted_areas : Areas → Grant → Stamp → Spot → Areas
granted_areas a q s p =
    areas (with_head a.sheet (next_word p.sheet.format a.records p.own))
    (sets a.heap (chunk_start p) (granted_chunk p.sheet.format p.sheet.size p.sheet.head q))
    (stamped p.sheet.format a.records p.own s)

-- K5 (allocate answers the buffer's address), E1 (a refusal): by its plan
abbrev pub allocate_result : Areas → Grant → Stamp → Result Spot Refusal → Outcome (Result ℕ Refusal)
allocate_result a q s (Ok p) = outcome (Ok (buffer_start p)) (granted_areas a q s p)
allocate_result a q s (Err why) = refused_with (Err why) a

-- K5, K6, E5 (allocate)
unfoldable pub allocate_of : Profile → Areas → Grant → Stamp → Outcome (Result ℕ Refusal)
allocate_of profile a q s = allocate_result a q s (allocate_plan profile a q s.thread)

-- what is known of a buffer that is taken, in areas of s, h and r bytes
pub record Takes (s h r : ℕ) (q : Grant) (p : Spot) : Type 0 where
  pub within : Within s h r p
  pub granted : lawful_size p.sheet.format.profile p.sheet.size q ≡ true
