-- Numbers and their bytes are those of std's conversions: `bytes_of` is `to_be_bytes` and `to_le_bytes`, at any width, and `number_at` is `from_be_bytes` and
-- `from_le_bytes` of the bytes at the offset, at the widths of the code. Assumes nothing.
use Rattle.std.proofs.Common.{◌≡◌, ℕ, zero, suc, ◌+◌, ◌/◌, ◌%◌, ◌^◌, ◌≤◌, List, [], ◌∷◌, ◌++◌, reverse, length, get_or, sym, refl, ap, arith, div-one, pow-suc}
use native.Mathlib.Nat.{pow-succ', div-div-eq-div-mul}
use borrow.Rule.Slice.PartMut.{put_mid}
use mathlib.Core.List.{reverse-append}
use lib.Seq.{sets}
use Rattle.std.specs.Int.{w16, w32, w64, byte_at, bytes_low_first, bytes_high_first, to_le_bytes, from_le_bytes, from_be_bytes}
use Rattle.words.specs.Word.{part, turned, number, bytes_of, number_at}
use Rattle.words.specs.Native.{low_number, low_bytes}
use Rattle.words.specs.declared.word.Order.TheVariants.{HighFirst, LowFirst}
use Rattle.words.proofs.Parts.{part_none, part_cons, part_two, part_back}
use Rattle.words.proofs.Numbers.{number_back}

-- ---- the bytes of a number

byte_is : (i v : ℕ) → byte_at i v ≡ v / 256 ^ i % 256
byte_is zero v = ap (λ (n : ℕ). n % 256) (sym (div-one v))
byte_is (suc i) v = refl

bytes_from : (k i v : ℕ) → bytes_low_first i k v ≡ low_bytes k (v / 256 ^ i)
unfolding low_bytes
bytes_from zero i v = refl
bytes_from (suc k) i v =
    let e : v / 256 ^ suc i ≡ v / 256 ^ i / 256 = rw (pow-suc 256 i) (sym (div-div-eq-div-mul v (256 ^ i) 256)) in
    rw (byte_is i v, bytes_from k (suc i) v, e)

last_byte : (k v : ℕ) → low_bytes (suc k) v ≡ low_bytes k v ++ (byte_at k v ∷ [])
unfolding low_bytes
last_byte zero v = refl
last_byte (suc k) v =
    let e : v / 256 / 256 ^ k ≡ v / 256 ^ suc k = rw (pow-succ' 256 k) (div-div-eq-div-mul v 256 (256 ^ k)) in
    ap (λ (r : List ℕ). v % 256 ∷ r) (rw (last_byte k (v / 256), byte_is k (v / 256), e))

bytes_down : (k v : ℕ) → reverse (low_bytes k v) ≡ bytes_high_first k v
unfolding low_bytes
bytes_down zero v = refl
bytes_down (suc k) v = rw (last_byte k v, reverse-append (low_bytes k v) (byte_at k v ∷ []), bytes_down k v)

pub bytes_low : (k v : ℕ) → bytes_of LowFirst k v ≡ bytes_low_first 0 k v
unfolding bytes_of turned
bytes_low k v = rw (bytes_from k 0 v, div-one v)

pub bytes_high : (k v : ℕ) → bytes_of HighFirst k v ≡ bytes_high_first k v
unfolding bytes_of turned
bytes_high k v = bytes_down k v

-- a number of four bytes, turned
pub turned_4 : (v : ℕ) → number LowFirst (bytes_of HighFirst 4 v) ≡ from_be_bytes w32 (to_le_bytes w32 v)
unfolding number turned low_number
turned_4 v = rw (bytes_high 4 v) (omega arith)

-- ---- the number of the bytes at an offset

module _ (l : List ℕ) (at : ℕ) where
  abbrev pub two : List ℕ
  two = get_or l at 0 ∷ get_or l (at + 1) 0 ∷ []

  abbrev pub four : List ℕ
  four = get_or l at 0 ∷ get_or l (at + 1) 0 ∷ get_or l (at + 2) 0 ∷ get_or l (at + 3) 0 ∷ []

  abbrev pub eight : List ℕ
  eight =
      get_or l at 0 ∷ get_or l (at + 1) 0 ∷ get_or l (at + 2) 0 ∷ get_or l (at + 3) 0
      ∷ get_or l (at + 4) 0 ∷ get_or l (at + 5) 0 ∷ get_or l (at + 6) 0 ∷ get_or l (at + 7) 0 ∷ []

  part_two_bytes : at + 2 ≤ length l → part l at 2 ≡ two
  part_two_bytes h = grind (arith, part_cons, part_none)

  part_four : at + 4 ≤ length l → part l at 4 ≡ four
  part_four h = grind (arith, part_cons, part_none)

module _ (l : List ℕ) (at : ℕ) where
  part_eight : at + 8 ≤ length l → part l at 8 ≡ eight l at
  part_eight h = grind (arith, sym (part_two l at 4 4), part_four l at (omega arith), part_four l (at + 4) (omega arith))

  pub read_1 : at + 1 ≤ length l → number_at HighFirst 1 l at ≡ get_or l at 0
  unfolding number_at number turned low_number
  read_1 h = rw (part_cons l at 0 (omega arith), part_none l (at + 1)) (omega arith)

  pub read_2 : at + 2 ≤ length l → number_at HighFirst 2 l at ≡ from_be_bytes w16 (two l at)
  unfolding number_at number turned low_number
  read_2 h = rw (part_two_bytes l at h) (omega arith)

  pub read_high_4 : at + 4 ≤ length l → number_at HighFirst 4 l at ≡ from_be_bytes w32 (four l at)
  unfolding number_at number turned low_number
  read_high_4 h = rw (part_four l at h) (omega arith)

  pub read_low_4 : at + 4 ≤ length l → number_at LowFirst 4 l at ≡ from_le_bytes w32 (four l at)
  unfolding number_at number turned low_number
  read_low_4 h = rw (part_four l at h) (omega arith)

  pub read_high_8 : at + 8 ≤ length l → number_at HighFirst 8 l at ≡ from_be_bytes w64 (eight l at)
  unfolding number_at number turned low_number
  read_high_8 h = rw (part_eight h) (omega arith)

  pub read_low_8 : at + 8 ≤ length l → number_at LowFirst 8 l at ≡ from_le_bytes w64 (eight l at)
  unfolding number_at number turned low_number
  read_low_8 h = rw (part_eight h) (omega arith)

-- ---- bytes are written at an offset

pub written : (at m : ℕ) (l vs : List ℕ) → m ≡ length vs → at + length vs ≤ length l → put_mid at m l vs ≡ sets l at vs
written at m l vs e h = rw e (part_back l vs at (length vs) refl h)

-- what the functions on words go by
pub ruleset conversions = (read_1, read_2, read_high_4, read_low_4, read_high_8, read_low_8, bytes_low, bytes_high, turned_4, number_back, written)
