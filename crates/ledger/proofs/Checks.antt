-- P1 to P12 hold in either order, and so do the worked cases of userland: a test that is computed over a whole table, and one law that turns it into what
-- each check claims. Assumes nothing.
use mathlib.Core.Path.{◌≡◌, refl}
use mathlib.Core.Bool.{Bool, true, false, ◌&&◌, not, and-eq-true_iff}
use mathlib.Core.List.{List, [], ◌∷◌}
use Prim.Native.Nat.{ℕ}
use native.Mathlib.Omega.{arith}
use borrow.Author.Tests.{eqb-true, not-true}
use lib.Bits.{bit_xor}
use lib.Dec.{eqb}
use Rattle.words.specs.Word.{part, flat, turned, number, bytes_of, number_at}
use Rattle.words.specs.Native.{low_number, low_bytes}
use Rattle.words.specs.declared.word.Order.{Order}
use Rattle.words.specs.declared.word.Order.TheVariants.{HighFirst, LowFirst}
use Rattle.tags.specs.Format.{format_of}
use Rattle.tags.specs.declared.format.Format.{Format}
use Rattle.tags.specs.declared.format.Profile.{Profile}
use Rattle.tags.specs.declared.format.Profile.TheVariants.{Kernel, Userland}
use Rattle.runs.specs.Run.{repeated, difference_from}
use Rattle.words.specs.Age.{age_of}
use Rattle.tags.specs.Tag.{state_word, tag_of, pattern_of, pattern_word}
use Rattle.tags.specs.SizeCode.{decoded_of}
use Rattle.chunks.specs.Chunk.{chunk_of, free_chunk, granted_chunk, tag_at}
use Rattle.chunks.specs.Header.{header_size, header_bytes, header_right}
use Rattle.chunks.specs.Judge.{free_verdict, allocated_verdict, zone_verdict, coded_verdict, header_verdict, headed_verdict, sized_verdict}
use Rattle.tags.specs.Verdict.{verdict_number, verdict_value}
use Rattle.chunks.specs.declared.chunk.Grant.TheVariants as grant
use Rattle.history.specs.Log.{row_record, row_uptime}
use Rattle.area.specs.Record.{record_size, stamp_of, record_bytes, stamped, record_word}
use Rattle.sheet.specs.Fields.{field_is, is_short, is_long, shaped, order_number, sheet_of, sheet_bytes, with_head}
use Rattle.geometry.specs.Limits.{sizes_lawful, bases_lawful, lawful}
use Rattle.sheet.specs.Opening.{measured, numbered, ordered, opened_of}
use Rattle.area.specs.Place.{place_of}
use Rattle.verdicts.specs.Judge.{standing, is_freed_twice, is_at_rest, rest_verdict, owned_verdict, chained_verdict}
use Rattle.transactions.specs.Latest.{considered, latest_row}
use Rattle.layout.specs.Layout.{link_to, laid_areas, lay_out_plan, lay_out_of}
use Rattle.allocation.specs.Allocate.{taken_chunk, taken_head, taken_of, allocate_plan, granted_areas, allocate_of}
use Rattle.ledger.specs.Ledger.{allocate, result_of, put, begun, run}
use Rattle.ledger.specs.Checks.{Check, tagged, judged, aged, next, granted, ClaimOf, AllClaims, checks, userland_checks, list_checks, table_of}
use Rattle.ledger.specs.Checks.{fresh_areas, refused_as, row_latest, free_with, allocated_with}

-- two lists of bytes are the same
abbrev same_bytes_lem : List ℕ → List ℕ → Bool
same_bytes_lem [] [] = true
same_bytes_lem [] (y ∷ ys) = false
same_bytes_lem (x ∷ xs) [] = false
same_bytes_lem (x ∷ xs) (y ∷ ys) = eqb x y && same_bytes_lem xs ys

same_bytes : (xs ys : List ℕ) → same_bytes_lem xs ys ≡ true → xs ≡ ys
same_bytes [] [] e = refl
same_bytes [] (y ∷ ys) e = absurd (let z : ◌≡◌ {A = ℕ} 0 1 = cc in omega arith)
same_bytes (x ∷ xs) [] e = absurd (let z : ◌≡◌ {A = ℕ} 0 1 = cc in omega arith)
same_bytes (x ∷ xs) (y ∷ ys) e = let both = (and-eq-true_iff _ _).0 e in rw (eqb-true x y both.0, same_bytes xs ys both.1)

abbrev test : Format → Check → Bool
test f (tagged t0 t1 s) = eqb (bit_xor t0 t1) (state_word s)
test f (judged c a met listed number value) =
    let v = owned_verdict f c a (standing met false listed) in eqb (verdict_number v) number && eqb (verdict_value v) value
test f (aged time first second age₁ age₂) =
    eqb (age_of 32 time first) age₁ && (eqb (age_of 32 time second) age₂ && (row_latest f time first second && not (row_latest f time second first)))
test f (granted q a chunk) = same_bytes_lem (granted_chunk f 24 a q) chunk
test f (next calls number) =
    eqb (refused_as (result_of f.profile (allocate grant.Whole (stamp_of 4 7)) (run f 24 calls (begun (fresh_areas f))).areas).answer) number

holds : (f : Format) (c : Check) → test f c ≡ true → ClaimOf f c
holds f (tagged t0 t1 s) e = eqb-true (bit_xor t0 t1) (state_word s) e
holds f (judged c a met listed number value) e =
    let both = (and-eq-true_iff _ _).0 e in
    let v = owned_verdict f c a (standing met false listed) in
    (eqb-true (verdict_number v) number both.0, eqb-true (verdict_value v) value both.1)
holds f (aged time first second age₁ age₂) e =
    let one = (and-eq-true_iff _ _).0 e in
    let two = (and-eq-true_iff _ _).0 one.1 in
    let three = (and-eq-true_iff _ _).0 two.1 in
    (eqb-true (age_of 32 time first) age₁ one.0, eqb-true (age_of 32 time second) age₂ two.0, three.0, not-true (row_latest f time second first) three.1)
holds f (granted q a chunk) e = same_bytes (granted_chunk f 24 a q) chunk e
holds f (next calls number) e =
    eqb-true (refused_as (result_of f.profile (allocate grant.Whole (stamp_of 4 7)) (run f 24 calls (begun (fresh_areas f))).areas).answer) number e

abbrev all : Format → List Check → Bool
all f [] = true
all f (c ∷ cs) = test f c && all f cs

all_hold : (f : Format) (cs : List Check) → all f cs ≡ true → AllClaims f cs
all_hold f [] e = tt
all_hold f (c ∷ cs) e = let both = (and-eq-true_iff _ _).0 e in (holds f c both.0, all_hold f cs both.1)

-- every table of checks that is computed
computed : (p : Profile) (o : Order) → all (format_of p o) (table_of p (format_of p o)) ≡ true
unfolding checks userland_checks list_checks free_with allocated_with fresh_areas run put lay_out_plan lay_out_of laid_areas sheet_bytes
    record_bytes flat link_to part turned number bytes_of low_number low_bytes number_at repeated difference_from tag_of pattern_of pattern_word
    decoded_of chunk_of free_chunk granted_chunk tag_at owned_verdict chained_verdict is_freed_twice is_at_rest rest_verdict header_size header_bytes
    header_right header_verdict headed_verdict coded_verdict record_size row_latest row_record row_uptime considered latest_row free_verdict
    allocated_verdict zone_verdict sized_verdict age_of stamped field_is is_short is_long shaped order_number sheet_of with_head measured numbered
    ordered opened_of lawful sizes_lawful bases_lawful place_of record_word taken_chunk taken_head taken_of allocate_plan granted_areas allocate_of
computed Kernel HighFirst = refl
computed Kernel LowFirst = refl
computed Userland HighFirst = refl
computed Userland LowFirst = refl

pub checks_hold : (p : Profile) (o : Order) → AllClaims (format_of p o) (table_of p (format_of p o))
checks_hold p o = all_hold (format_of p o) (table_of p (format_of p o)) (computed p o)
