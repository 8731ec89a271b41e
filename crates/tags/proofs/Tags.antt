-- The laws of tags and of size codes. Assumes nothing.
use Rattle.std.specs.Prelude.{Result, Ok, Err}
use mathlib.Core.Path.{◌≡◌, refl, ap, ap₂, ◌∙◌}
use mathlib.Core.Bool.{true, false, not}
use Prim.Native.Nat.{ℕ, zero, suc, ◌+◌, ◌*◌, ◌/◌, ◌%◌, ◌≤◌, ◌<◌}
use native.Mathlib.Nat.{mod-lt, div-add-mod', zero-lt-suc}
use native.Mathlib.Omega.{arith}
use borrow.Author.Tests.{le-ltb, ltb-false, eqb-false, ne_eqb}
use lib.Arith.{bin_ind}
use lib.Bits.{bit_xor, differ, xor_step, xor_shr, xor_mod}
use lib.Dec.{eqb, ltb}
use Rattle.words.proofs.Tests.{by_test}
use Rattle.tags.specs.Tag.{tag_of, pattern_of, pattern_word, state_word, is_free, is_allocated}
use Rattle.tags.specs.SizeCode.{code_of, decoded_of}
use Rattle.tags.specs.declared.tag.State.{State}
use Rattle.tags.specs.declared.size_code.BadCode.{BadCode}
use Rattle.tags.specs.declared.size_code.BadCode.TheVariants.{Remainder, Zero, Above}
use Rattle.tags.specs.declared.tag.State.TheVariants as state
use Rattle.tags.specs.declared.tag.Pattern.{Pattern}
use Rattle.tags.specs.declared.tag.Pattern.TheVariants as pattern

-- ---- the tag

digit : (x y : ℕ) → x < 2 → y < 2 → differ x (differ x y) ≡ y
digit zero y hx hy = refl
digit (suc zero) zero hx hy = refl
digit (suc zero) (suc zero) hx hy = refl
digit (suc zero) (suc (suc y)) hx hy = absurd (omega arith)
digit (suc (suc x)) y hx hy = absurd (omega arith)

low : (x y : ℕ) → x < 2 → y < 2 → bit_xor x y ≡ differ x y
low zero y hx hy = refl
low (suc zero) zero hx hy = refl
low (suc zero) (suc zero) hx hy = refl
low (suc zero) (suc (suc y)) hx hy = absurd (omega arith)
low (suc (suc x)) y hx hy = absurd (omega arith)

pub xor_twice : (a b : ℕ) → bit_xor a (bit_xor a b) ≡ b
xor_twice =
    bin_ind (λ (n : ℕ). (b : ℕ) → bit_xor n (bit_xor n b) ≡ b) (λ b. refl)
    (λ n ih b.
    let hn : n % 2 < 2 = mod-lt n (zero-lt-suc 1) in
    let hb : b % 2 < 2 = mod-lt b (zero-lt-suc 1) in
    xor_step n (bit_xor n b)
    ∙ ap₂ (λ (x y : ℕ). x * 2 + y)
    (ap (bit_xor (n / 2)) (xor_shr n b 1) ∙ ih (b / 2))
    (ap (differ (n % 2)) (xor_mod n b 1 ∙ low (n % 2) (b % 2) hn hb) ∙ digit (n % 2) (b % 2) hn hb)
    ∙ div-add-mod' b 2)

-- the xor of a tag gives the pattern of its state back
pub tag_word : (a : ℕ) (s : State) → bit_xor (tag_of a s).t0 (tag_of a s).t1 ≡ state_word s
unfolding tag_of
tag_word a s = xor_twice a (state_word s)

-- the pattern of a state, as it is read
abbrev pub state_pattern : State → Pattern
state_pattern state.Free = pattern.Free
state_pattern state.Allocated = pattern.Allocated

pub tag_pattern : (a : ℕ) (s : State) → pattern_of (tag_of a s) ≡ state_pattern s
unfolding pattern_of pattern_word
tag_pattern a s = ap pattern_word (tag_word a s) ∙ known s
  where
    known : (s : State) → pattern_word (state_word s) ≡ state_pattern s
    known state.Free = refl
    known state.Allocated = refl

-- the pattern that the two tests tell
pub is_free_lem : (p : Pattern) → is_free p ≡ true → p ≡ pattern.Free
is_free_lem pattern.Free e = refl
is_free_lem pattern.Allocated e = absurd (let z : ◌≡◌ {A = ℕ} 0 1 = cc in omega arith)
is_free_lem pattern.Neither e = absurd (let z : ◌≡◌ {A = ℕ} 0 1 = cc in omega arith)

pub is_allocated_lem : (p : Pattern) → is_allocated p ≡ true → p ≡ pattern.Allocated
is_allocated_lem pattern.Free e = absurd (let z : ◌≡◌ {A = ℕ} 0 1 = cc in omega arith)
is_allocated_lem pattern.Allocated e = refl
is_allocated_lem pattern.Neither e = absurd (let z : ◌≡◌ {A = ℕ} 0 1 = cc in omega arith)

pub is_neither_lem : (p : Pattern) → is_free p ≡ false → is_allocated p ≡ false → p ≡ pattern.Neither
is_neither_lem pattern.Free e f = absurd (let z : ◌≡◌ {A = ℕ} 0 1 = cc in omega arith)
is_neither_lem pattern.Allocated e f = absurd (let z : ◌≡◌ {A = ℕ} 0 1 = cc in omega arith)
is_neither_lem pattern.Neither e f = refl

-- ---- the size code

-- a code gives its size back
pub decode_code : (s most : ℕ) → 1 ≤ s → s ≤ most → decoded_of (code_of s) most ≡ Ok s
unfolding decoded_of
decode_code s most h k =
    let q : (251 * s + 1) / 251 ≡ s = omega arith in
    let r : (251 * s + 1) % 251 ≡ 1 = omega arith in
    rw (q, r, ne_eqb s 0 (λ z. omega arith), le-ltb most s k)

-- a decoded size is one of the buffer's
pub decoded_within : (code most s : ℕ) → decoded_of code most ≡ Ok s → (1 ≤ s) × (s ≤ most)
unfolding decoded_of
decoded_within code most s e =
    by_test P (not (eqb (code % 251) 1)) (λ _. none Remainder)
    (λ _. by_test P (eqb (code / 251) 0) (λ _. none Zero)
    (λ some. by_test P (ltb most (code / 251)) (λ _. none Above)
    (λ few f.
    let z : code / 251 ≡ s = cc in
    let n = eqb-false (code / 251) 0 some in
    (omega arith, omega (arith, ltb-false most (code / 251) few)))))
    e
  where
    P : Result ℕ BadCode → Type 0
    P d = d ≡ Ok s → (1 ≤ s) × (s ≤ most)

    none : (how : BadCode) → P (Err how)
    none how f = absurd (let z : ◌≡◌ {A = ℕ} 0 1 = cc in omega arith)
