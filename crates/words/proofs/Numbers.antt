-- The laws of numbers in bytes, each stated once over the width and the order. Three of them (`bytes_turned`, `turned_twice`, `length-turned`) go by cases on
-- the order, and `turned_low` names it. Assumes nothing.
use Rattle.std.proofs.Common.{◌≡◌, ℕ, zero, suc, ◌+◌, ◌*◌, ◌/◌, ◌%◌, ◌^◌, ◌<◌, ◌≤◌, ◌⊎◌, List, [], ◌∷◌, ◌++◌, reverse, length, get_or, refl, ap, ◌∙◌, arith}
use mathlib.Core.List.{reverse-cons, reverse-reverse}
use lib.ListN.{length-reverse}
use lib.Seq.{sets}
use Rattle.words.specs.Word.{part, turned, number, bytes_of, number_at}
use Rattle.words.specs.Native.{low_number, low_bytes}
use Rattle.words.specs.declared.word.Order.{Order}
use Rattle.words.specs.declared.word.Order.TheVariants.{HighFirst, LowFirst}
use Rattle.words.proofs.Parts.{length_part, part_none, part_cons, part_written, part_outside}
use Rattle.words.proofs.Loads.{length_low, low_back}

-- ---- bytes, the lowest first

-- the elements of a list are bytes
abbrev pub Bytes : List ℕ → Type 0
Bytes [] = Unit {0}
Bytes (b ∷ bs) = (b < 256) × Bytes bs

-- bytes are read back from their number
low_bytes_lem : (bs : List ℕ) → Bytes bs → low_bytes (length bs) (low_number bs) ≡ bs
unfolding low_number low_bytes
low_bytes_lem [] h = refl
low_bytes_lem (b ∷ bs) h =
    let m : (b + 256 * low_number bs) % 256 ≡ b = omega (arith, h.0) in
    let q : (b + 256 * low_number bs) / 256 ≡ low_number bs = omega (arith, h.0) in
    rw (m, q, low_bytes_lem bs h.1)

bytes_append : (xs ys : List ℕ) → Bytes xs → Bytes ys → Bytes (xs ++ ys)
bytes_append [] ys hx hy = hy
bytes_append (x ∷ xs) ys hx hy = (hx.0, bytes_append xs ys hx.1 hy)

bytes_reverse : (xs : List ℕ) → Bytes xs → Bytes (reverse xs)
bytes_reverse [] h = h
bytes_reverse (x ∷ xs) h = rw (reverse-cons x xs) (bytes_append (reverse xs) (x ∷ []) (bytes_reverse xs h.1) (h.0, tt))

-- the bytes of a part of a slice's list
pub bytes_part : (n : ℕ) (l : List ℕ) (at : ℕ) → at + n ≤ length l → ((i : ℕ) → get_or l i 0 < 256) → Bytes (part l at n)
bytes_part zero l at h f = rw (part_none l at) tt
bytes_part (suc n) l at h f = rw (part_cons l at n (omega arith)) (f at, bytes_part n l (at + 1) (omega arith) f)

-- ---- in either order

bytes_turned : (o : Order) (bs : List ℕ) → Bytes bs → Bytes (turned o bs)
unfolding turned
bytes_turned HighFirst bs h = bytes_reverse bs h
bytes_turned LowFirst bs h = h

turned_twice : (o : Order) (bs : List ℕ) → turned o (turned o bs) ≡ bs
unfolding turned
turned_twice HighFirst bs = reverse-reverse bs
turned_twice LowFirst bs = refl

length-turned : (o : Order) (bs : List ℕ) → length (turned o bs) ≡ length bs
unfolding turned
length-turned HighFirst bs = length-reverse bs
length-turned LowFirst bs = refl

pub length_bytes_of : (o : Order) (k v : ℕ) → length (bytes_of o k v) ≡ k
unfolding bytes_of
length_bytes_of o k v = length-turned o (low_bytes k v) ∙ length_low k v

-- a number that k bytes hold is read back from them
pub number_back : (o : Order) (k v : ℕ) → v < 256 ^ k → number o (bytes_of o k v) ≡ v
unfolding number bytes_of
number_back o k v h = ap low_number (turned_twice o (low_bytes k v)) ∙ low_back k v h

-- and bytes from their number
pub bytes_of_number : (o : Order) (k : ℕ) (bs : List ℕ) → length bs ≡ k → Bytes bs → bytes_of o k (number o bs) ≡ bs
unfolding number bytes_of
bytes_of_number o k bs e h =
    rw (← e, ← length-turned o bs, low_bytes_lem (turned o bs) (bytes_turned o bs h)) (turned_twice o bs)

-- a number is read back from where it was written
pub number_at_written : (o : Order) (k : ℕ) (l : List ℕ) (at v : ℕ) → at + k ≤ length l → v < 256 ^ k
    → number_at o k (sets l at (bytes_of o k v)) at ≡ v
unfolding number_at
number_at_written o k l at v h small =
    ap (number o) (part_written l (bytes_of o k v) at k (length_bytes_of o k v) h) ∙ number_back o k v small

-- a read outside a written run
pub number_at_outside : (o : Order) (k : ℕ) (vs l : List ℕ) (i at : ℕ) → (at + k ≤ i) ⊎ (i + length vs ≤ at)
    → number_at o k (sets l i vs) at ≡ number_at o k l at
unfolding number_at
number_at_outside o k vs l i at h = ap (number o) (part_outside vs l i at k h)

-- a read in one order, and then in another
pub number_at_again : (o p : Order) (k : ℕ) (l : List ℕ) (at : ℕ) → at + k ≤ length l → ((i : ℕ) → get_or l i 0 < 256)
    → number o (bytes_of p k (number_at p k l at)) ≡ number_at o k l at
unfolding number_at
number_at_again o p k l at h f = ap (number o) (bytes_of_number p k (part l at k) (length_part l at k h) (bytes_part k l at h f))

-- the low order's bytes are those with the lowest first
pub turned_low : (k v : ℕ) → low_bytes k v ≡ bytes_of LowFirst k v
unfolding bytes_of turned
turned_low k v = refl
