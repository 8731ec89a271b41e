-- A buffer that a client holds, by its address: what free, store and show test alike. Assumes nothing.
use Rattle.tags.specs.declared.refusal.Refusal.{Refusal}
use Rattle.std.specs.Prelude.{◌≡◌, true, cond, List, ℕ, eqb, Result, Ok, Err}
use Rattle.tags.specs.Tag.{pattern_of}
use Rattle.tags.specs.Verdict.{verdict_number, verdict_value}
use Rattle.tags.specs.declared.tag.Pattern.{Pattern}
use Rattle.tags.specs.declared.tag.Pattern.TheVariants as pattern
use Rattle.tags.specs.declared.verdict.Verdict.{Verdict}
use Rattle.tags.specs.declared.verdict.Verdict.TheVariants as verdict
use Rattle.tags.specs.declared.refusal.Refusal.TheVariants.{NoSuchBuffer, Damage, NotAllocated}
use Rattle.chunks.specs.Chunk.{tag_at, lawful_size}
use Rattle.chunks.specs.Judge.{allocated_verdict}
use Rattle.chunks.specs.declared.chunk.Grant.{Grant}
use Rattle.chunks.specs.declared.chunk.Grant.TheVariants.{Whole, Sized}
use Rattle.area.specs.Place.{by_place}
use Rattle.area.specs.Record.{address_word}
use Rattle.sheet.specs.Areas.{Image, chunk_at}
use Rattle.geometry.specs.Sheet.{buffer_of, record_of}
use Rattle.places.specs.Spot.{spot, Within}
use Rattle.places.specs.declared.spot.Spot.{Spot}
use Rattle.held.specs.declared.Holding.{Holding}

-- a buffer and its record, with a grant
abbrev pub holding : Spot → Grant → Holding
holding p q = record { spot = p; grant = q }

-- E6 (X7 with 27, 31, 32, 28 or 30), J9 (found as granted: 1 whole, 2 with s)
abbrev pub held_as : Verdict → Spot → Result Holding Refusal
held_as v p =
    cond (eqb (verdict_number v) 1) (Ok (holding p Whole))
    (cond (eqb (verdict_number v) 2) (Ok (holding p (Sized (verdict_value v)))) (Err (Damage v)))

-- E6 (neither pattern 21; X8), then the allocated chunk's own bytes
abbrev pub held_by : Pattern → List ℕ → Spot → Result Holding Refusal
held_by pattern.Neither c p = Err (Damage verdict.BadTag)
held_by pattern.Free c p = Err NotAllocated
held_by pattern.Allocated c p = held_as (allocated_verdict p.sheet.format c) p

-- E6 (X7 with 21: T0 is no record's address, or that record does not name this buffer), for the chunk c of buffer i at an address
unfoldable pub held_chunk : Image → List ℕ → ℕ → ℕ → Result Holding Refusal
held_chunk m c address i =
    by_place (record_of m.sheet (tag_at m.sheet.format c).t0)
    (λ j. cond (eqb (address_word m.sheet.format m.records j) address)
    (held_by (pattern_of (tag_at m.sheet.format c)) c (spot m.sheet i j))
    (Err (Damage verdict.BadTag)))
    (Err (Damage verdict.BadTag))

-- E6 (free, store and show: X4, X7 with 21, X8, X7 with 27, 31, 32, 28 or 30), in an image
unfoldable pub held_of : Image → ℕ → Result Holding Refusal
held_of m address = by_place (buffer_of m.sheet address) (λ i. held_chunk m (chunk_at m i) address i) (Err NoSuchBuffer)

-- what is known of a buffer that is held, in areas of s, h and r bytes
pub record HeldWithin (s h r : ℕ) (p : Holding) : Type 0 where
  pub within : Within s h r p.spot
  pub granted : lawful_size p.spot.sheet.format.profile p.spot.sheet.size p.grant ≡ true
