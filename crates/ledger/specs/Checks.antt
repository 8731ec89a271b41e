-- The worked cases P1 to P12 of the kernel's profile, and those of userland's, as one table each for each order: buffer size 24. The words are the same in
-- both orders; their bytes, and so the first byte that differs in P9, are those of the order. Assumes nothing.
use Rattle.tags.specs.declared.refusal.Refusal.{Refusal}
use Rattle.std.specs.Prelude.{◌≡◌, Bool, true, false, List, [], ◌∷◌, ◌++◌, ℕ, ◌+◌, replicate, set, Option, Some, None, Result, Ok, Err}
use Rattle.std.specs.Int.Bits.{bit_xor}
use Rattle.words.specs.declared.word.Order.{Order}
use Rattle.words.specs.declared.word.Order.TheVariants.{HighFirst, LowFirst}
use Rattle.runs.specs.Run.{repeated}
use Rattle.words.specs.Age.{age_of}
use Rattle.tags.specs.Format.{by_profile, word_bytes}
use Rattle.tags.specs.declared.format.Format.{Format}
use Rattle.tags.specs.declared.format.Profile.{Profile}
use Rattle.tags.specs.Tag.{state_word}
use Rattle.chunks.specs.Chunk.{redzone, free_fill, grant_fill, guard, chunk_of, granted_chunk}
use Rattle.chunks.specs.declared.chunk.Grant.{Grant}
use Rattle.tags.specs.Verdict.{verdict_number, verdict_value}
use Rattle.tags.specs.declared.tag.State.{State}
use Rattle.tags.specs.declared.tag.State.TheVariants as state
use Rattle.chunks.specs.declared.chunk.Grant.TheVariants as grant
use Rattle.area.specs.Record.{stamp_of}
use Rattle.sheet.specs.Fields.{sheet_length}
use Rattle.sheet.specs.Areas.{Areas, areas}
use Rattle.verdicts.specs.Judge.{standing, owned_verdict}
use Rattle.transactions.specs.Latest.{latest_row, first_best}
use Rattle.tags.specs.Refusal.{refusal_number}
use Rattle.layout.specs.Layout.{lay_out_of}
use Rattle.ledger.specs.Ledger.{Call, allocate, result_of, begun, run}

-- a fresh image of three buffers of 24 bytes
unfoldable pub fresh_areas : Format → Areas
fresh_areas f = (lay_out_of (areas (replicate sheet_length 0) (replicate 120 0) (replicate 288 0)) f 0x70039928 0x70a9add8 0x70ae31a0 24 3).areas

-- the number of the refusal of an allocate of the whole buffer, 0 where it is accepted
abbrev pub refused_as : Result ℕ Refusal → ℕ
refused_as (Ok a) = 0
refused_as (Err why) = refusal_number why

-- a log of one row, which names the record at an address
abbrev pub row_of : Format → ℕ → ℕ → List ℕ
row_of f a stamp = word_bytes f a ++ word_bytes f stamp ++ word_bytes f 0 ++ word_bytes f 2

-- whether it is a row
abbrev pub is_row : Option ℕ → Bool
is_row (Some k) = true
is_row None = false

-- of a record with one stamp and a row that names it with another, the row is the latest
unfoldable pub row_latest : Format → ℕ → ℕ → ℕ → Bool
row_latest f time stamp row = is_row (latest_row f (row_of f 0x70ae3200 row) 0x70ae3200 time (first_best stamp time) 1).row

-- P1 to P12: the four kinds of worked case
pub data Check : Type 0 where
  -- two tag words, and the state whose pattern their xor is
  tagged : (t0 t1 : ℕ) → State → Check
  -- the chunk of a buffer whose own record is at an address and is met by the chain or not, how often the buffer is listed, and the number and the value
  -- of its verdict
  judged : (chunk : List ℕ) (address : ℕ) (met : Bool) (listed number value : ℕ) → Check
  -- a time, two stamps and their ages, of which the second is later
  aged : (time first second : ℕ) (age₁ age₂ : ℕ) → Check
  -- calls made in the fresh image, and the number of the refusal of an allocate after them
  next : (calls : List Call) (number : ℕ) → Check
  -- a grant, and the chunk that it makes of a buffer whose record is at an address
  granted : (q : Grant) (address : ℕ) (chunk : List ℕ) → Check

-- what a check claims of images of a format
abbrev pub ClaimOf : Format → Check → Type 0
ClaimOf f (tagged t0 t1 s) = bit_xor t0 t1 ≡ state_word s
ClaimOf f (judged c a met listed number value) =
    (verdict_number (owned_verdict f c a (standing met false listed)) ≡ number) × (verdict_value (owned_verdict f c a (standing met false listed)) ≡ value)
ClaimOf f (aged time first second age₁ age₂) =
    (age_of 32 time first ≡ age₁) × (age_of 32 time second ≡ age₂) × (row_latest f time first second ≡ true) × (row_latest f time second first ≡ false)
ClaimOf f (next calls number) =
    refused_as (result_of f.profile (allocate grant.Whole (stamp_of 4 7)) (run f 24 calls (begun (fresh_areas f))).areas).answer ≡ number
ClaimOf f (granted q a chunk) = granted_chunk f 24 a q ≡ chunk

-- every check of a list holds
abbrev pub AllClaims : Format → List Check → Type 0
AllClaims f [] = Unit {0}
AllClaims f (c ∷ cs) = ClaimOf f c × AllClaims f cs

-- a chunk of the free pattern, but for T1
unfoldable pub free_with : Format → List ℕ → ℕ → List ℕ
free_with f buffer t1 = chunk_of f buffer redzone redzone 0x70ae3260 t1

-- a chunk of the allocated pattern
unfoldable pub allocated_with : Format → List ℕ → ℕ → ℕ → List ℕ
allocated_with f buffer r0 r1 = chunk_of f buffer r0 r1 0x70ae3200 0xd1befaed

-- 24 bytes of a word again and again
abbrev pub filled_with : Format → ℕ → List ℕ
filled_with f w = repeated 24 (word_bytes f w)

-- C8 (the word that R0 reads after a full-size grant: the guard is R0's first byte, which is the highest or the lowest)
abbrev pub guarded_zone : Order → ℕ
guarded_zone HighFirst = 0xbbedface
guarded_zone LowFirst = 0xfeedfabb

-- W1 (where the highest byte of a word stands)
abbrev pub highest_at : Order → ℕ
highest_at HighFirst = 0
highest_at LowFirst = 3

-- the same of a buffer that is not listed
abbrev pub examined : List ℕ → ℕ → Bool → ℕ → ℕ → Check
examined chunk address met number value = judged chunk address met 0 number value

-- P1 to P12, in order
unfoldable pub checks : Format → List Check
checks f =
    tagged 0x70ae3260 0x8440c68e state.Free
    ∷ tagged 0x70ae3200 0xd1befaed state.Allocated
    ∷ examined (free_with f (filled_with f free_fill) 0x8440c68f) 0x70ae3260 true 21 0
    ∷ examined (allocated_with f (set (filled_with f grant_fill) 20 guard) redzone 0x139d) 0x70ae3200 false 2 20
    ∷ examined (allocated_with f (set (filled_with f grant_fill) 20 guard) redzone 0x139e) 0x70ae3200 false 27 0
    ∷ examined (allocated_with f (filled_with f grant_fill) redzone 1) 0x70ae3200 false 31 0
    ∷ examined (allocated_with f (filled_with f grant_fill) (guarded_zone f.order) 0x1789) 0x70ae3200 false 2 24
    ∷ examined (allocated_with f (filled_with f grant_fill) redzone 0x1884) 0x70ae3200 false 32 0
    ∷ examined (allocated_with f (filled_with f grant_fill) 0x00edface redzone) 0x70ae3200 false 28 (24 + highest_at f.order)
    ∷ examined (free_with f (set (filled_with f free_fill) 9 0) 0x8440c68e) 0x70ae3260 true 25 9
    ∷ aged 0x10 0xfffffff0 8 32 8
    ∷ next (allocate grant.Whole (stamp_of 1 7) ∷ allocate grant.Whole (stamp_of 2 7) ∷ allocate grant.Whole (stamp_of 3 7) ∷ []) 5
    ∷ []

-- ---- userland

-- a buffer of 24 bytes that starts with two words, and is filled behind them
abbrev headed_with : Format → ℕ → ℕ → List ℕ
headed_with f first second = word_bytes f first ++ word_bytes f second ++ repeated 16 (word_bytes f grant_fill)

-- U4, U6 (a request of 10): the coded size 0x12, the header's words 0x12 and 0x3a10bfee, the code 0x11a7, and the guard at 18
abbrev worked_chunk : Format → List ℕ
worked_chunk f = allocated_with f (set (headed_with f 0x12 0x3a10bfee) 18 guard) redzone 0x11a7

unfoldable pub userland_checks : Format → List Check
userland_checks f =
    granted (grant.Sized 10) 0x70ae3200 (worked_chunk f)
    -- found as granted
    ∷ examined (worked_chunk f) 0x70ae3200 false 2 10
    -- V30 (the first word, the second, a coded size below 9)
    ∷ examined (allocated_with f (set (headed_with f 0x13 0x3a10bfee) 18 guard) redzone 0x11a7) 0x70ae3200 false 30 0
    ∷ examined (allocated_with f (set (headed_with f 0x12 0x3a10bfef) 18 guard) redzone 0x11a7) 0x70ae3200 false 30 0
    ∷ examined (allocated_with f (set (headed_with f 8 0x3a10bff8) 8 guard) redzone 0x7d9) 0x70ae3200 false 30 0
    -- V27, V31, V32 (they are of the coded size, and come before V28 and V30)
    ∷ examined (allocated_with f (headed_with f 0x13 0x3a10bfee) redzone 0x11a8) 0x70ae3200 false 27 0
    ∷ examined (allocated_with f (headed_with f 0 0x3a10c000) redzone 1) 0x70ae3200 false 31 0
    ∷ examined (allocated_with f (headed_with f 0x19 0x3a10bfe7) redzone 0x1884) 0x70ae3200 false 32 0
    -- V28 comes before V30
    ∷ examined (allocated_with f (headed_with f 0x13 0x3a10bfee) redzone 0x11a7) 0x70ae3200 false 28 18
    -- C8, U5 (the largest request)
    ∷ examined (allocated_with f (headed_with f 0x18 0x3a10bfe8) (guarded_zone f.order) 0x1789) 0x70ae3200 false 2 16
    -- a whole grant has no header
    ∷ examined (allocated_with f (filled_with f 0) redzone redzone) 0x70ae3200 false 1 0
    ∷ []

-- ---- the magazine list

-- the free chunk of P1, and a chunk after a whole grant
abbrev sound_free : Format → List ℕ
sound_free f = free_with f (filled_with f free_fill) 0x8440c68e

abbrev sound_whole : Format → List ℕ
sound_whole f = allocated_with f (filled_with f grant_fill) redzone redzone

unfoldable pub list_checks : Format → List Check
list_checks f =
    -- V3 (listed once, and off the chain), V23 (off both), V0 (on the chain, and not listed)
    judged (sound_free f) 0x70ae3260 false 1 3 0
    ∷ judged (sound_free f) 0x70ae3260 false 0 23 0
    ∷ judged (sound_free f) 0x70ae3260 true 0 0 0
    -- M4, V22 (listed and on the chain, listed twice), of either pattern
    ∷ judged (sound_free f) 0x70ae3260 true 1 22 0
    ∷ judged (sound_free f) 0x70ae3260 false 2 22 0
    ∷ judged (sound_whole f) 0x70ae3200 true 1 22 0
    ∷ judged (sound_whole f) 0x70ae3200 false 2 22 0
    -- V24 (allocated, and listed once)
    ∷ judged (sound_whole f) 0x70ae3200 false 1 24 0
    -- V25, V26 (before V3), V21 (before V22)
    ∷ judged (free_with f (set (filled_with f free_fill) 9 0) 0x8440c68e) 0x70ae3260 false 1 25 9
    ∷ judged (chunk_of f (filled_with f free_fill) redzone 0x00edface 0x70ae3260 0x8440c68e) 0x70ae3260 false 1 26 (28 + highest_at f.order)
    ∷ judged (free_with f (filled_with f free_fill) 0x8440c68f) 0x70ae3260 false 2 21 0
    ∷ []

-- the table of a profile: its own cases, and those of the list, which both have
abbrev pub table_of : Profile → Format → List Check
table_of p f = by_profile p (checks f) (userland_checks f) ++ list_checks f
