-- What is known of a sheet that passed its tests. Assumes nothing.
use mathlib.Core.Path.{◌≡◌, refl}
use mathlib.Core.Logic.{◌⊎◌, inl, inr}
use mathlib.Core.Bool.{Bool, true, false, ◌||◌, and-eq-true_iff}
use Prim.Native.Nat.{ℕ, ◌+◌, ◌*◌, ◌≤◌, ◌<◌}
use native.Mathlib.Nat.{mul-le-mul_right}
use native.Mathlib.Omega.{arith}
use borrow.Author.Tests.{eqb-true, eqb-false, leb-true, not-true}
use lib.Dec.{leb}
use Rattle.words.proofs.Parts.{below}
use Rattle.chunks.specs.Chunk.{ChunkLength}
use Rattle.area.specs.Record.{record_size, RecordIn}
use Rattle.area.proofs.Records.{record_most}
use Rattle.geometry.specs.Limits.{sizes_lawful, bases_lawful, lawful, count_most, Sizes, SizesOf, Bases, Lawful}
use Rattle.geometry.specs.Sheet.{heap_length, records_length}
use Rattle.geometry.specs.declared.sheet.Sheet.{Sheet}

pub sizes_known : (size chunk n flags : ℕ) → sizes_lawful size chunk n flags ≡ true → Sizes size chunk n flags
unfolding sizes_lawful
sizes_known size chunk n flags e =
    let a = (and-eq-true_iff _ _).0 e in
    let b = (and-eq-true_iff _ _).0 a.0 in
    let c = (and-eq-true_iff _ _).0 b.0 in
    let d = (and-eq-true_iff _ _).0 c.0 in
    let f = (and-eq-true_iff _ _).0 d.0 in
    let g = (and-eq-true_iff _ _).0 f.0 in
    let h = (and-eq-true_iff _ _).0 g.0 in
    record {
      eights = eqb-true _ _ h.0;
      least = leb-true _ _ h.1;
      most = leb-true _ _ g.1;
      chunks = eqb-true _ _ f.1;
      some = leb-true _ _ d.1;
      few = leb-true _ _ c.1;
      area = leb-true _ _ b.1;
      flags_are = eqb-true _ _ a.1;
    }

or_true_either : (a b : Bool) → a || b ≡ true → (a ≡ true) ⊎ (b ≡ true)
or_true_either true b e = inl refl
or_true_either false b e = inr e

bases_known : (heap records heapLen recordsLen : ℕ) → bases_lawful heap records heapLen recordsLen ≡ true → Bases heap records heapLen recordsLen
unfolding bases_lawful
bases_known heap records heapLen recordsLen e =
    let a = (and-eq-true_iff _ _).0 e in
    let b = (and-eq-true_iff _ _).0 a.0 in
    let c = (and-eq-true_iff _ _).0 b.0 in
    let d = (and-eq-true_iff _ _).0 c.0 in
    let f = (and-eq-true_iff _ _).0 d.0 in
    let g = (and-eq-true_iff _ _).0 f.0 in
    record {
      heap_some = positive (eqb-false _ _ (not-true _ g.0));
      heap_eights = eqb-true _ _ g.1;
      records_some = positive (eqb-false _ _ (not-true _ f.1));
      records_eights = eqb-true _ _ d.1;
      heap_fits = leb-true _ _ c.1;
      records_fit = leb-true _ _ b.1;
      apart = either (or_true_either _ _ a.1);
    }
  where
    positive : {n : ℕ} → (n ≡ 0 → ⊥) → 0 < n
    positive h = omega arith

    either : (leb (heap + heapLen) records ≡ true) ⊎ (leb (records + recordsLen) heap ≡ true)
        → (heap + heapLen ≤ records) ⊎ (records + recordsLen ≤ heap)
    either (inl t) = inl (leb-true _ _ t)
    either (inr t) = inr (leb-true _ _ t)

pub lawful_known : (g : Sheet) → lawful g ≡ true → Lawful g
unfolding lawful
lawful_known g e = let both = (and-eq-true_iff _ _).0 e in record { sizes = sizes_known _ _ _ _ both.0; bases = bases_known _ _ _ _ both.1 }

-- the record area is not long: the most records, by their profile's length, and so by either's
pub records-most : (g : Sheet) → SizesOf g → records_length g ≤ count_most * record_size g.format.profile
records-most g s = mul-le-mul_right (record_size g.format.profile) s.few

pub records-small : (g : Sheet) → SizesOf g → records_length g ≤ 51200
records-small g s = omega (arith, records-most g s, record_most g.format.profile)

-- a record of the sheet lies in an area of the sheet's length
pub record_in : (g : Sheet) (j len : ℕ) → len ≡ records_length g → j < g.count → RecordIn g.format.profile j len
record_in g j len e h = omega (arith, below (record_size g.format.profile) h)

-- ---- places in the areas of a lawful sheet

module _ (g : Sheet) (law : Lawful g) (i : ℕ) (h : i < g.count) where
  pub chunk_inside : i * g.chunk + g.chunk ≤ heap_length g
  chunk_inside = below g.chunk h

  pub record_inside : RecordIn g.format.profile i (records_length g)
  record_inside = below (record_size g.format.profile) h

  pub chunk_small : i * g.chunk + g.chunk ≤ 65536
  chunk_small = let k = chunk_inside in let a = law.sizes.area in omega arith

  -- a record's address is a word
  pub record_word_lem : g.record_base + i * record_size g.format.profile + record_size g.format.profile ≤ 4294967296
  record_word_lem = let k = record_inside in let f = law.bases.records_fit in omega arith

  -- and so is a buffer's
  pub buffer_word : g.heap_base + i * g.chunk + g.chunk ≤ 4294967296
  buffer_word = let k = chunk_inside in let f = law.bases.heap_fits in omega arith

-- the length of a chunk
pub chunk_length : (g : Sheet) → Lawful g → ChunkLength g.chunk
chunk_length g law = let s = law.sizes in record { least = omega arith; most = omega arith; eights = omega arith }
