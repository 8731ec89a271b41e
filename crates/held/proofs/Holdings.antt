-- What is known of a buffer that is held, by the equation of what is held alone. Assumes nothing.
use Rattle.std.specs.Prelude.{Some, Result, Ok, Err}
use Rattle.tags.specs.declared.refusal.Refusal.{Refusal}
use mathlib.Core.Path.{◌≡◌, refl, ◌∙◌, subst}
use mathlib.Core.Logic.{◌≢◌}
use mathlib.Core.Bool.{true}
use mathlib.Core.List.{List}
use Prim.Native.Nat.{ℕ, ◌<◌}
use native.Mathlib.Omega.{arith}
use borrow.Author.Tests.{eq-eqb, ne_eqb}
use lib.Dec.{eqb}
use lib.ListN.{length}
use Rattle.words.proofs.Tests.{by_test}
use Rattle.tags.specs.Tag.{pattern_of}
use Rattle.tags.specs.Verdict.{code_number}
use Rattle.tags.specs.declared.format.Profile.{Profile}
use Rattle.tags.specs.declared.tag.Pattern.{Pattern}
use Rattle.tags.specs.declared.tag.Pattern.TheVariants as pattern
use Rattle.tags.specs.declared.verdict.Verdict.{Verdict}
use Rattle.tags.specs.declared.verdict.Verdict.TheVariants.{Free, Whole, Allocated, Cached, NotOneRecord, BadTag, FreedTwice}
use Rattle.tags.specs.declared.verdict.Verdict.TheVariants.{OffChain, OnChain, BadFill, BadRedzone, BadSizeCode, Overrun, BadHeader}
use Rattle.tags.specs.declared.refusal.Refusal.TheVariants.{Damage}
use Rattle.tags.proofs.Verdicts.{code_fault}
use Rattle.chunks.specs.Chunk.{buffer_size, tag_at, lawful_size}
use Rattle.chunks.specs.Judge.{allocated_verdict}
use Rattle.chunks.specs.declared.chunk.Grant.{Grant}
use Rattle.chunks.specs.declared.chunk.Grant.TheVariants as grant
use Rattle.chunks.proofs.Chunks.{allocated_within}
use Rattle.area.specs.Record.{address_word}
use Rattle.area.proofs.Places.{place_found}
use Rattle.area.proofs.Placed.{by_place_lem}
use Rattle.sheet.specs.Areas.{Areas, by_lengths, Image, image_of, chunk_at}
use Rattle.sheet.specs.Fields.{sheet_of}
use Rattle.geometry.specs.Sheet.{buffer_of, record_of}
use Rattle.sheet.specs.Opening.{Open}
use Rattle.geometry.specs.declared.sheet.Sheet.{Sheet}
use Rattle.sheet.proofs.Opens.{Opens}
use Rattle.places.specs.Spot.{spot, buffer_start}
use Rattle.places.specs.declared.spot.Spot.{Spot}
use Rattle.places.proofs.Chunks.{chunk_long}
use Rattle.held.specs.Held.{holding, held_as, held_by, held_chunk, held_of, HeldWithin}
use Rattle.held.specs.declared.Holding.{Holding}

-- ---- in an image

-- an image that is open
abbrev pub OpenImage : Image → Type 0
OpenImage m = Open (length m.heap) (length m.records) m.sheet

-- a buffer that is held in an image: it is the one at the address, its record is one of the image's, and its grant is of lawful size
pub record HeldIn (m : Image) (address : ℕ) (p : Holding) : Type 0 where
  pub same : p.spot.sheet ≡ m.sheet
  pub opened : Open (length m.heap) (length m.records) p.spot.sheet
  pub buffer : p.spot.buffer < p.spot.sheet.count
  pub own : p.spot.own < p.spot.sheet.count
  pub granted : lawful_size p.spot.sheet.format.profile p.spot.sheet.size p.grant ≡ true
  pub starts : address ≡ buffer_start p.spot

abbrev HeldIf : Image → ℕ → Result Holding Refusal → Type 0
HeldIf m address (Ok p) = HeldIn m address p
HeldIf m address (Err why) = Unit {0}

module _ (m : Image) (address : ℕ) (p : Spot)
    (known : (q : Grant) → lawful_size p.sheet.format.profile p.sheet.size q ≡ true → HeldIn m address (holding p q)) where
  held_as_if : (v : Verdict) → ((k : ℕ) → v ≡ Allocated k → lawful_size p.sheet.format.profile p.sheet.size (grant.Sized k) ≡ true)
      → HeldIf m address (held_as v p)
  held_as_if Whole f = known grant.Whole refl
  held_as_if (Allocated k) f = known (grant.Sized k) (f k refl)
  held_as_if Free f = tt
  held_as_if Cached f = tt
  held_as_if NotOneRecord f = tt
  held_as_if BadTag f = tt
  held_as_if FreedTwice f = tt
  held_as_if OffChain f = tt
  held_as_if OnChain f = tt
  held_as_if (BadFill o) f = tt
  held_as_if (BadRedzone o) f = tt
  held_as_if (BadSizeCode how) f =
      let k = (code_fault how).0 in
      rw (ne_eqb (code_number how) 1 (λ e. omega arith), ne_eqb (code_number how) 2 (λ e. omega arith)) tt
  held_as_if (Overrun o) f = tt
  held_as_if BadHeader f = tt

  held_by_if : (c : List ℕ) (t : Pattern) → buffer_size c ≡ p.sheet.size → HeldIf m address (held_by t c p)
  held_by_if c pattern.Neither e = tt
  held_by_if c pattern.Free e = tt
  held_by_if c pattern.Allocated e =
      held_as_if (allocated_verdict p.sheet.format c)
      (λ k q. subst (λ (n : ℕ). lawful_size p.sheet.format.profile n (grant.Sized k) ≡ true) e (allocated_within p.sheet.format c k q))

held_if : (m : Image) (address : ℕ) → OpenImage m → HeldIf m address (held_of m address)
unfolding held_of held_chunk
held_if m address o =
    by_place_lem P (buffer_of m.sheet address)
    (λ i f.
    let c = chunk_at m i in
    let at = place_found _ _ _ _ _ f in
    by_place_lem P (record_of m.sheet (tag_at m.sheet.format c).t0)
    (λ j h. by_test P (eqb (address_word m.sheet.format m.records j) address)
    (λ t. held_by_if m address (spot m.sheet i j)
    (λ q l. record { same = refl; opened = o; buffer = at.0; own = (place_found _ _ _ _ _ h).0; granted = l; starts = at.1 })
    c (pattern_of (tag_at m.sheet.format c))
    (let n = chunk_long m.heap m.sheet i o.law o.heap_long at.0 in omega (arith, o.law.sizes.chunks)))
    (λ t. tt))
    tt)
    tt
  where
    P : Result Holding Refusal → Type 0
    P = HeldIf m address

-- the record that T0 names decides: the buffer is held by its chunk where that record names it
module _ (m : Image) (c : List ℕ) (address i j : ℕ) (e : record_of m.sheet (tag_at m.sheet.format c).t0 ≡ Some j) where
  pub chunk_named : address_word m.sheet.format m.records j ≡ address
      → held_chunk m c address i ≡ held_by (pattern_of (tag_at m.sheet.format c)) c (spot m.sheet i j)
  unfolding held_chunk
  chunk_named n = rw (e, eq-eqb (address_word m.sheet.format m.records j) address n)

  pub chunk_unnamed : address_word m.sheet.format m.records j ≢ address → held_chunk m c address i ≡ Err (Damage BadTag)
  unfolding held_chunk
  chunk_unnamed n = rw (e, ne_eqb (address_word m.sheet.format m.records j) address n)

pub held_known : (m : Image) (address : ℕ) (p : Holding) → OpenImage m → held_of m address ≡ Ok p → HeldIn m address p
held_known m address p o e = subst (HeldIf m address) e (held_if m address o)

-- ---- in the areas of a call

-- a held buffer: what is written for it lies in the areas, and it is the one at the address
pub record HeldAt (profile : Profile) (a : Areas) (address : ℕ) (p : Holding) : Type 0 where
  pub held : by_lengths HeldWithin a p
  pub starts : address ≡ buffer_start p.spot
  pub same : p.spot.sheet ≡ sheet_of profile a.sheet

-- the areas that a sheet opens
abbrev pub OpenAreas : Profile → Areas → Sheet → Type 0
OpenAreas profile a g = Opens profile a.sheet (length a.heap) (length a.records) g

pub held_at : (profile : Profile) (a : Areas) (g : Sheet) (address : ℕ) (p : Holding) → OpenAreas profile a g → held_of (image_of a g) address ≡ Ok p
    → HeldAt profile a address p
held_at profile a g address p o e =
    let k = held_known (image_of a g) address p o.opens e in
    record {
      held = record { within = record { long = o.long; opened = k.opened; buffer = k.buffer; own = k.own }; granted = k.granted };
      starts = k.starts;
      same = k.same ∙ o.same;
    }
