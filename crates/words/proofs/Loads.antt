-- The laws of numbers in bytes with the lowest first, each stated once over the width. Assumes nothing.
use Rattle.std.proofs.Common.{◌≡◌, ℕ, zero, suc, ◌+◌, ◌*◌, ◌/◌, ◌%◌, ◌^◌, ◌<◌, ◌++◌, length, set, sym, refl, ap, ◌∙◌, mod-lt, suc-add, div-add-mod', zero-add, mul_left_comm, arith, lit<}
use native.Mathlib.Nat.{pow-succ', one-le-pow}
use Rattle.words.specs.Native.{low_number, low_bytes}

pub length_low : (k v : ℕ) → length (low_bytes k v) ≡ k
unfolding low_bytes
length_low zero v = refl
length_low (suc k) v = ap suc (length_low k (v / 256))

-- a number that k bytes hold is read back from them
pub low_back : (k v : ℕ) → v < 256 ^ k → low_number (low_bytes k v) ≡ v
unfolding low_number low_bytes
low_back zero v h = omega arith
low_back (suc k) v h =
    let s : v / 256 < 256 ^ k = omega (arith, pow-succ' 256 k) in
    rw (low_back k (v / 256) s) (omega arith)

-- the bytes of a number that has x as its lowest j bytes and y as the others
pub low_join : (j k x y : ℕ) → x < 256 ^ j → low_bytes (j + k) (x + y * 256 ^ j) ≡ low_bytes j x ++ low_bytes k y
unfolding low_bytes
low_join zero k x y h =
    let e : x + y * 1 ≡ y = omega arith in
    rw (zero-add k, e)
low_join (suc j) k x y h =
    let p : y * 256 ^ suc j ≡ 256 * (y * 256 ^ j) = ap (λ (z : ℕ). y * z) (pow-succ' 256 j) ∙ mul_left_comm y 256 (256 ^ j) in
    let m : (x + y * 256 ^ suc j) % 256 ≡ x % 256 = omega arith in
    let q : (x + y * 256 ^ suc j) / 256 ≡ x / 256 + y * 256 ^ j = omega arith in
    let s : x / 256 < 256 ^ j = omega (arith, pow-succ' 256 j) in
    rw (suc-add j k, m, q, low_join j k (x / 256) y s)

-- and those of a number's two parts
pub low_halves : (j k v : ℕ) → low_bytes j (v % 256 ^ j) ++ low_bytes k (v / 256 ^ j) ≡ low_bytes (j + k) v
low_halves j k v =
    let e : v % 256 ^ j + v / 256 ^ j * 256 ^ j ≡ v = omega (arith, div-add-mod' v (256 ^ j)) in
    sym (low_join j k (v % 256 ^ j) (v / 256 ^ j) (mod-lt v (one-le-pow j 256 (lit< tt)))) ∙ ap (low_bytes (j + k)) e

-- the first byte is replaced
pub low_first : (k v b r : ℕ) → b < 256 → r ≡ v / 256 * 256 + b → low_bytes (suc k) r ≡ set (low_bytes (suc k) v) 0 b
unfolding low_bytes
low_first k v b r h e =
    let m : r % 256 ≡ b = omega arith in
    let q : r / 256 ≡ v / 256 = omega arith in
    rw (m, q)
