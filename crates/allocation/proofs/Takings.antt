-- What is known of the buffer that an allocation takes, by the equation of its plan alone. Assumes nothing.
use Rattle.std.specs.Prelude.{Result, Ok, Err, IfOk}
use Rattle.std.proofs.lemmas.Result.{IfOk-at_ok}
use Rattle.tags.specs.declared.refusal.Refusal.{Refusal}
use mathlib.Core.Path.{◌≡◌, ◌∙◌}
use mathlib.Core.List.{List}
use Prim.Native.Nat.{ℕ}
use lib.Dec.{eqb}
use lib.ListN.{length}
use Rattle.words.proofs.Tests.{by_test}
use Rattle.tags.specs.Tag.{pattern_of}
use Rattle.tags.specs.Verdict.{verdict_number, is_found_free, told_of, of_told}
use Rattle.tags.specs.declared.verdict.Verdict.{Verdict}
use Rattle.tags.specs.declared.verdict.Verdict.TheVariants as verdict
use Rattle.tags.specs.declared.refusal.Refusal.TheVariants.{Damage}
use Rattle.tags.proofs.Verdicts.{told_back}
use Rattle.tags.specs.declared.format.Profile.{Profile}
use Rattle.tags.specs.declared.tag.Pattern.{Pattern}
use Rattle.tags.specs.declared.tag.Pattern.TheVariants as pattern
use Rattle.chunks.specs.Chunk.{tag_at, lawful_size}
use Rattle.chunks.specs.Judge.{free_verdict}
use Rattle.chunks.specs.declared.chunk.Grant.{Grant}
use Rattle.area.specs.Record.{address_word}
use Rattle.area.proofs.Places.{place_found}
use Rattle.area.proofs.Placed.{by_place_lem}
use Rattle.sheet.specs.Areas.{Areas, by_lengths, opening, is_nobody, chunk_in}
use Rattle.geometry.specs.Sheet.{buffer_of, record_of}
use Rattle.geometry.proofs.Sheets.{lawful_known}
use Rattle.sheet.specs.Opening.{Open}
use Rattle.sheet.specs.declared.open_image.OpenImage.{OpenImage}
use Rattle.sheet.proofs.Opens.{opened_known, by-opened}
use Rattle.places.specs.Spot.{spot}
use Rattle.places.specs.declared.spot.Spot.{Spot}
use Rattle.allocation.specs.Allocate.{if_free, taken_by, taken_chunk, taken_head, taken_of, allocate_plan, Takes}

-- a verdict that is read back from its numbers and is not the free one refuses
pub found_lem : (v w : Verdict) (p : Spot) → w ≡ of_told (told_of v) → (w ≡ verdict.Free → ⊥) → Err (Damage w) ≡ if_free v p
unfolding of_told
found_lem v w p e n =
    by_test (λ (r : Result Spot Refusal). Err (Damage w) ≡ r) (is_found_free (verdict_number v))
    (λ t. absurd (n (e ∙ rw t)))
    (λ t. let q : w ≡ v = e ∙ told_back v in rw q)

taken_by_lem : (a : Areas) (q : Grant) (t : Pattern) (c : List ℕ) (p : Spot) → by_lengths Takes a q p → IfOk (taken_by t c p) (by_lengths Takes a q)
taken_by_lem a q pattern.Neither c p k = tt
taken_by_lem a q pattern.Allocated c p k = tt
taken_by_lem a q pattern.Free c p k =
    by_test (λ r. IfOk r (by_lengths Takes a q)) (is_found_free (verdict_number (free_verdict p.sheet.format c))) (λ t. k) (λ t. tt)

-- a buffer that a plan takes can be taken
pub taken_if : (profile : Profile) (a : Areas) (q : Grant) (thread : ℕ) → IfOk (allocate_plan profile a q thread) (by_lengths Takes a q)
unfolding allocate_plan taken_of taken_head taken_chunk
taken_if profile a q thread =
    by-opened P (opening profile a)
    (λ g e.
    let o = opened_known profile a.sheet (length a.heap) (length a.records) g e in
    by_test P (is_nobody thread) (λ n. tt)
    (λ n. by_test P (lawful_size g.format.profile g.size q)
    (λ l. by_test P (eqb g.head 0) (λ t. tt)
    (λ t. by_place_lem P (record_of g g.head)
    (λ j f. by_place_lem P (buffer_of g (address_word g.format a.records j))
    (λ i h.
    let c = chunk_in g a.heap i in
    by_test P (eqb (tag_at g.format c).t0 g.head)
    (λ t. taken_by_lem a q (pattern_of (tag_at g.format c)) c (spot g i j)
    (record { within = record { long = o.long; opened = o.opens; buffer = (place_found _ _ _ _ _ h).0; own = (place_found _ _ _ _ _ f).0 }; granted = l }))
    (λ t. tt))
    tt)
    tt))
    (λ t. tt)))
    (λ why. tt)
  where
    P : Result Spot Refusal → Type 0
    P r = IfOk r (by_lengths Takes a q)

pub taken_known : (profile : Profile) (a : Areas) (q : Grant) (thread : ℕ) (p : Spot) → allocate_plan profile a q thread ≡ Ok p → by_lengths Takes a q p
taken_known profile a q thread p e = IfOk-at_ok (by_lengths Takes a q) e (taken_if profile a q thread)
