-- The laws of bytes that are compared eight at a time. Assumes nothing.
use mathlib.Core.Path.{◌≡◌, refl, sym, ap, ◌∙◌}
use mathlib.Core.Bool.{cond}
use mathlib.Core.List.{List, [], ◌∷◌}
use Prim.Native.Nat.{ℕ, zero, suc, ◌+◌, ◌-◌, ◌*◌, ◌/◌, ◌%◌, ◌^◌, ◌<◌, ◌≤◌}
use native.Mathlib.Nat.{add-zero, zero-add, suc-add, pow-suc, pow-succ', one-le-pow, div-one, div-div-eq-div-mul}
use native.Mathlib.Decide.{ℕ_discrete, dec_le}
use native.Mathlib.Omega.{arith}
use borrow.Author.Tests.{eq-eqb, ne_eqb}
use lib.Arith.{mod-mul}
use lib.Bits.{bit_or, bit_xor, or_add_and, xor_add_and, and_le_l, and_le_r, xor_self, xor_mod, xor_shr}
use lib.Count.{count_trailing_zeros}
use lib.Dec.{eqb, lit<}
use lib.ListN.{length, get_or, drop}
use Rattle.std.specs.Int.{w32, w64, from_le_bytes}
use Rattle.std.specs.Prelude.{Some}
use Rattle.std.proofs.lemmas.List.{drop_all, get_or_past, length-take}
use Rattle.words.specs.Word.{part}
use Rattle.words.specs.Native.{low_bytes}
use Rattle.runs.specs.Run.{repeated, difference_from, difference, lowest_byte, Alike}
use Rattle.words.proofs.Parts.{length_part, get_or_part, part_none, part_two}
use Rattle.words.proofs.Loads.{length_low}
use Rattle.runs.proofs.Runs.{nowhere_from, repeated_add}

-- ---- differences gathered by `|` and made by `^` are none

pub or_none : (a b : ℕ) → bit_or a b ≡ 0 → (a ≡ 0) × (b ≡ 0)
or_none a b e =
    (omega (arith, or_add_and a b, and_le_l a b, and_le_r a b), omega (arith, or_add_and a b, and_le_l a b, and_le_r a b))

pub xor_none : (a b : ℕ) → bit_xor a b ≡ 0 → a ≡ b
xor_none a b e = omega (arith, xor_add_and a b, and_le_l a b, and_le_r a b)

-- ---- the lowest digit that is set

-- j digits, and those behind them
low_digits : (j x : ℕ) → x % 2 ^ suc j ≡ (x / 2 % 2 ^ j) * 2 + x % 2
low_digits j x = ap (λ (m : ℕ). x % m) (pow-suc 2 j) ∙ mod-mul x (one-le-pow j 2 (lit< tt)) (lit< tt)

-- where the lowest j digits are 0 it is behind them, and else among them
trailing_behind : (j k x : ℕ) → x % 2 ^ j ≡ 0 → count_trailing_zeros (j + k) x ≡ j + count_trailing_zeros k (x / 2 ^ j)
unfolding count_trailing_zeros
trailing_behind zero k x h = rw (zero-add k, div-one x) (sym (zero-add (count_trailing_zeros k x)))
trailing_behind (suc j) k x h =
    let z : x % 2 ≡ 0 = omega (arith, low_digits j x) in
    let r : x / 2 % 2 ^ j ≡ 0 = omega (arith, low_digits j x) in
    let q : x / 2 / 2 ^ j ≡ x / 2 ^ suc j = div-div-eq-div-mul x 2 (2 ^ j) ∙ ap (λ (m : ℕ). x / m) (sym (pow-succ' 2 j)) in
    rw (suc-add j k, z) (ap suc (trailing_behind j k (x / 2) r) ∙ rw (q, suc-add))

trailing_among : (j k x : ℕ) → (x % 2 ^ j ≡ 0 → ⊥) → count_trailing_zeros (j + k) x < j
unfolding count_trailing_zeros
trailing_among zero k x h = absurd (h (omega arith))
trailing_among (suc j) k x h = go (ℕ_discrete (x % 2) 0) (trailing_among j k (x / 2))
  where
    go : Dec (x % 2 ≡ 0) → ((x / 2 % 2 ^ j ≡ 0 → ⊥) → count_trailing_zeros (j + k) (x / 2) < j) → count_trailing_zeros (suc j + k) x < suc j
    go (yes z) ih =
        let r : count_trailing_zeros (j + k) (x / 2) < j = ih (λ e. h (omega (arith, low_digits j x))) in
        rw (suc-add j k, z) (omega arith)
    go (no n) ih =
        let z : x % 2 ≡ 1 = omega arith in
        rw (suc-add j k, z) (omega arith)

-- ---- the first byte at which two numbers differ

-- the number of some bytes, the first byte the lowest
abbrev pub value : List ℕ → ℕ
value [] = 0
value (b ∷ bs) = b + 256 * value bs

value_at : (n : ℕ) (bs : List ℕ) → value (drop n bs) ≡ get_or bs n 0 + 256 * value (drop (suc n) bs)
value_at zero [] = refl
value_at zero (b ∷ bs) = refl
value_at (suc n) [] = refl
value_at (suc n) (b ∷ bs) = value_at n bs

pub value_four : (bs : List ℕ) → length bs ≡ 4 → from_le_bytes w32 bs ≡ value bs
value_four bs e =
    let z : value (drop 4 bs) ≡ 0 = ap value (drop_all 4 bs (omega arith)) in
    omega (arith, value_at 0 bs, value_at 1 bs, value_at 2 bs, value_at 3 bs)

pub value_eight : (bs : List ℕ) → length bs ≡ 8 → from_le_bytes w64 bs ≡ value bs
value_eight bs e =
    let z : value (drop 8 bs) ≡ 0 = ap value (drop_all 8 bs (omega arith)) in
    omega (arith, value_at 0 bs, value_at 1 bs, value_at 2 bs, value_at 3 bs, value_at 4 bs, value_at 5 bs, value_at 6 bs, value_at 7 bs)

abbrev pub Bytes : List ℕ → Type 0
Bytes bs = (i : ℕ) → get_or bs i 0 < 256

-- numbers that are the same have the same bytes
pub value_same : (xs ys : List ℕ) → length xs ≡ length ys → Bytes xs → Bytes ys → value xs ≡ value ys → xs ≡ ys
value_same [] [] e hx hy v = refl
value_same [] (y ∷ ys) e hx hy v = absurd (omega arith)
value_same (x ∷ xs) [] e hx hy v = absurd (omega arith)
value_same (x ∷ xs) (y ∷ ys) e hx hy v =
    let h : x ≡ y = omega (arith, hx 0, hy 0) in
    let t : value xs ≡ value ys = omega arith in
    rw (h, value_same xs ys (omega arith) (λ i. hx (suc i)) (λ i. hy (suc i)) t)

-- the first bytes of two numbers, and the others
low_and_rest : (x y : ℕ) (xs ys : List ℕ) → x < 256 → y < 256
    → (bit_xor (value (x ∷ xs)) (value (y ∷ ys)) % 256 ≡ bit_xor x y) × (bit_xor (value (x ∷ xs)) (value (y ∷ ys)) / 256 ≡ bit_xor (value xs) (value ys))
low_and_rest x y xs ys hx hy =
    let ax : value (x ∷ xs) % 256 ≡ x = omega arith in
    let ay : value (y ∷ ys) % 256 ≡ y = omega arith in
    let bx : value (x ∷ xs) / 256 ≡ value xs = omega arith in
    let by : value (y ∷ ys) / 256 ≡ value ys = omega arith in
    (rw (ax, ay) at (xor_mod (value (x ∷ xs)) (value (y ∷ ys)) 8), rw (bx, by) at (xor_shr (value (x ∷ xs)) (value (y ∷ ys)) 8))

-- numbers that differ do so first in the byte that has the lowest digit at which they do
value_differs : (m i : ℕ) (xs ys : List ℕ) → length xs ≡ length ys → Bytes xs → Bytes ys → (value xs ≡ value ys → ⊥)
    → difference_from i xs ys ≡ Some (i + count_trailing_zeros (length xs * 8 + m) (bit_xor (value xs) (value ys)) / 8)
unfolding difference_from
value_differs m i [] [] e hx hy ne = absurd (ne refl)
value_differs m i [] (y ∷ ys) e hx hy ne = absurd (omega arith)
value_differs m i (x ∷ xs) [] e hx hy ne = absurd (omega arith)
value_differs m i (x ∷ xs) (y ∷ ys) e hx hy ne =
    let n : suc (length xs) * 8 + m ≡ 8 + (length xs * 8 + m) = omega arith in
    rw n (go (ℕ_discrete x y) (low_and_rest x y xs ys (hx 0) (hy 0)) (value_differs m (suc i) xs ys (omega arith) (λ j. hx (suc j)) (λ j. hy (suc j))))
  where
    go : Dec (x ≡ y)
        → (bit_xor (value (x ∷ xs)) (value (y ∷ ys)) % 256 ≡ bit_xor x y) × (bit_xor (value (x ∷ xs)) (value (y ∷ ys)) / 256 ≡ bit_xor (value xs) (value ys))
        → ((value xs ≡ value ys → ⊥)
        → difference_from (suc i) xs ys ≡ Some (suc i + count_trailing_zeros (length xs * 8 + m) (bit_xor (value xs) (value ys)) / 8))
        → cond (eqb x y) (difference_from (suc i) xs ys) (Some i)
        ≡ Some (i + count_trailing_zeros (8 + (length xs * 8 + m)) (bit_xor (value (x ∷ xs)) (value (y ∷ ys))) / 8)
    go (yes s) p ih =
        let z : bit_xor (value (x ∷ xs)) (value (y ∷ ys)) % 256 ≡ 0 = p.0 ∙ ap (λ (v : ℕ). bit_xor v y) s ∙ xor_self y in
        let t = trailing_behind 8 (length xs * 8 + m) (bit_xor (value (x ∷ xs)) (value (y ∷ ys))) z in
        rw (eq-eqb x y s, ih (λ f. ne (omega arith)), t, p.1) (ap Some (omega arith))
    go (no d) p ih =
        let t = trailing_among 8 (length xs * 8 + m) (bit_xor (value (x ∷ xs)) (value (y ∷ ys))) (λ f. d (xor_none x y (sym p.0 ∙ f))) in
        rw (ne_eqb x y d) (ap Some (omega arith))

-- the same of two numbers, by their lowest k bytes
low_value : (k v : ℕ) → v < 256 ^ k → value (low_bytes k v) ≡ v
unfolding low_bytes
low_value zero v h = omega arith
low_value (suc k) v h =
    let s : v / 256 < 256 ^ k = omega (arith, pow-succ' 256 k) in
    rw (low_value k (v / 256) s) (omega arith)

low_below : (k v : ℕ) → Bytes (low_bytes k v)
unfolding low_bytes
low_below zero v i = omega arith
low_below (suc k) v zero = omega arith
low_below (suc k) v (suc i) = low_below k (v / 256) i

pub low_differs : (k i a b : ℕ) → a < 256 ^ k → b < 256 ^ k → (a ≡ b → ⊥)
    → difference_from i (low_bytes k a) (low_bytes k b) ≡ Some (i + count_trailing_zeros (k * 8) (bit_xor a b) / 8)
low_differs k i a b ha hb ne =
    let n : value (low_bytes k a) ≡ value (low_bytes k b) → ⊥ = λ e. ne (sym (low_value k a ha) ∙ e ∙ low_value k b hb) in
    let e : length (low_bytes k a) ≡ length (low_bytes k b) = length_low k a ∙ sym (length_low k b) in
    let f = value_differs 0 i (low_bytes k a) (low_bytes k b) e (low_below k a) (low_below k b) n in
    rw (length_low k a, low_value k a ha, low_value k b hb, add-zero) at f

-- so the lowest byte of how two numbers differ tells where their bytes do
module _ (xs ys : List ℕ) (e : length xs ≡ length ys) (most : length xs ≤ 8) (hx : Bytes xs) (hy : Bytes ys) where
  pub same_bytes : bit_xor (value xs) (value ys) ≡ 0 → xs ≡ ys
  same_bytes z = value_same xs ys e hx hy (xor_none (value xs) (value ys) z)

  pub lowest_differs : lowest_byte (bit_xor (value xs) (value ys)) ≡ difference xs ys
  lowest_differs = go (ℕ_discrete (bit_xor (value xs) (value ys)) 0)
    where
      go : Dec (bit_xor (value xs) (value ys) ≡ 0) → lowest_byte (bit_xor (value xs) (value ys)) ≡ difference xs ys
      go (yes z) = rw (eq-eqb _ 0 z) (sym (nowhere_from (same_bytes z)))
      go (no d) =
          let m = 64 - length xs * 8 in
          let k : length xs * 8 + m ≡ 64 = omega arith in
          let f = value_differs m 0 xs ys e hx hy (λ v. d (ap (λ (a : ℕ). bit_xor a (value ys)) v ∙ xor_self (value ys))) in
          rw (ne_eqb _ 0 d) (sym (rw (k, zero-add) at f))

-- ---- runs that are compared by eights

-- no bytes are alike
pub alike_none : (l : List ℕ) (at len : ℕ) (w : List ℕ) → Alike l at len w 0
unfolding repeated
alike_none l at len w = record { within = omega arith; eights = refl; same = part_none l at }

-- eight bytes more of a run are alike
pub same_more : (l : List ℕ) (at i p e : ℕ) (w : List ℕ) → part l at i ≡ repeated i w → part l p 8 ≡ repeated 8 w → at + i ≡ p → i + 8 ≡ e → i % 8 ≡ 0
    → part l at e ≡ repeated e w
same_more l at i p e w es ep pp pe h =
    rw (← pe, repeated_add i 8 w (omega arith), ← part_two l at i 8, es, pp, ep)

-- and a block of four eights
pub same_block : (l : List ℕ) (at i : ℕ) (w v : List ℕ) → v ≡ repeated 8 w → i % 8 ≡ 0 → part l at i ≡ repeated i w
    → part l (at + i) 8 ≡ v → part l (at + i + 8) 8 ≡ v → part l (at + i + 16) 8 ≡ v → part l (at + i + 24) 8 ≡ v → part l at (i + 32) ≡ repeated (i + 32) w
same_block l at i w v ev h s a b c d =
    let s8 = same_more l at i (at + i) (i + 8) w s (a ∙ ev) refl refl h in
    let s16 = same_more l at (i + 8) (at + i + 8) (i + 16) w s8 (b ∙ ev) (omega arith) (omega arith) (omega arith) in
    let s24 = same_more l at (i + 16) (at + i + 16) (i + 24) w s16 (c ∙ ev) (omega arith) (omega arith) (omega arith) in
    same_more l at (i + 24) (at + i + 24) (i + 32) w s24 (d ∙ ev) (omega arith) (omega arith) (omega arith)

-- ---- bytes that are read one by one

pub bytes_part : (l : List ℕ) (at n : ℕ) → Bytes l → Bytes (part l at n)
unfolding part
bytes_part l at n h i = go (dec_le n i)
  where
    go : Dec (n ≤ i) → get_or (part l at n) i 0 < 256
    go (yes p) = omega (arith, get_or_past (part l at n) i 0 (simp length-take (omega arith)))
    go (no q) = omega (arith, h (at + i), get_or_part l at n i (omega arith))

module _ (l : List ℕ) (at : ℕ) where
  first : (n : ℕ) → get_or (part l at (suc n)) 0 0 ≡ get_or l at 0
  first n = get_or_part l at (suc n) 0 (omega arith) ∙ ap (λ (k : ℕ). get_or l k 0) (add-zero at)

  pub read_four : at + 4 ≤ length l
      → from_le_bytes w32 (get_or l at 0 ∷ get_or l (at + 1) 0 ∷ get_or l (at + 2) 0 ∷ get_or l (at + 3) 0 ∷ []) ≡ value (part l at 4)
  read_four h =
      omega (
        arith,
        value_four (part l at 4) (length_part l at 4 h),
        first 3,
        get_or_part l at 4 1 (lit< tt),
        get_or_part l at 4 2 (lit< tt),
        get_or_part l at 4 3 (lit< tt),
      )

  pub read_eight : at + 8 ≤ length l
      → from_le_bytes w64 (get_or l at 0 ∷ get_or l (at + 1) 0 ∷ get_or l (at + 2) 0 ∷ get_or l (at + 3) 0 ∷ get_or l (at + 4) 0
      ∷ get_or l (at + 5) 0 ∷ get_or l (at + 6) 0 ∷ get_or l (at + 7) 0 ∷ []) ≡ value (part l at 8)
  read_eight h =
      omega (
        arith,
        value_eight (part l at 8) (length_part l at 8 h),
        first 7,
        get_or_part l at 8 1 (lit< tt),
        get_or_part l at 8 2 (lit< tt),
        get_or_part l at 8 3 (lit< tt),
        get_or_part l at 8 4 (lit< tt),
        get_or_part l at 8 5 (lit< tt),
        get_or_part l at 8 6 (lit< tt),
        get_or_part l at 8 7 (lit< tt),
      )
