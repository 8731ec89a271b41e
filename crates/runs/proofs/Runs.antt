-- The laws of a word again and again, of the first place at which two lists differ, and of runs that are filled or compared from the front. Assumes nothing.
use mathlib.Core.Path.{◌≡◌, refl, sym, ap, ◌∙◌}
use mathlib.Core.Bool.{Bool, true, false, cond}
use mathlib.Core.List.{List, [], ◌∷◌, ◌++◌, append_assoc, append-nil}
use Prim.Native.Nat.{ℕ, zero, suc, ◌+◌, ◌-◌, ◌%◌, ◌≤◌, ◌<◌}
use Rattle.std.proofs.Common.{add-one}
use Rattle.std.proofs.lemmas.List.{drop_all}
use native.Mathlib.Nat.{add-zero, zero-add, add-suc, mod-eq_of_lt}
use native.Mathlib.Decide.{ℕ_discrete}
use native.Mathlib.Omega.{arith}
use borrow.Author.Tests.{eq-eqb, ne_eqb}
use lib.Dec.{eqb}
use lib.ListN.{length, get_or, drop, replicate, length-append, length-replicate, get_or-replicate, get_or-append}
use lib.Seq.{sets, drop-cons, ext_get_or, get_or_at}
use Rattle.std.specs.Prelude.{Option, Some, None}
use Rattle.std.specs.Option.{option_or, option_map}
use Rattle.words.specs.Word.{part}
use Rattle.runs.specs.Run.{repeated, difference_from, difference}
use Rattle.words.proofs.Parts.{length_part, get_or_part, part_right, part_two, sets_then}

-- ---- a word again and again

pub length-repeated : (n : ℕ) (w : List ℕ) → length (repeated n w) ≡ n
unfolding repeated
length-repeated zero w = refl
length-repeated (suc n) w = simp (length-append, length-repeated n w) (omega arith)

pub get_or_repeated : (n : ℕ) (w : List ℕ) (i : ℕ) → i < n → get_or (repeated n w) i 0 ≡ get_or w (i % 4) 0
unfolding repeated
get_or_repeated zero w i h = absurd (omega arith)
get_or_repeated (suc n) w i h = go (ℕ_discrete i n) (get_or_repeated n w i)
  where
    go : Dec (i ≡ n) → (i < n → get_or (repeated n w) i 0 ≡ get_or w (i % 4) 0)
        → get_or (repeated n w ++ (get_or w (n % 4) 0 ∷ [])) i 0 ≡ get_or w (i % 4) 0
    go (yes e) ih = rw e (get_or_at (repeated n w) (get_or w (n % 4) 0) [] 0 n (length-repeated n w))
    go (no ne) ih =
        let g : i < n = omega arith in
        get_or-append (repeated n w) (get_or w (n % 4) 0 ∷ []) 0 i (omega (arith, length-repeated n w)) ∙ ih g

-- a run behind whole words
pub repeated_add : (i n : ℕ) (w : List ℕ) → i % 4 ≡ 0 → repeated (i + n) w ≡ repeated i w ++ repeated n w
unfolding repeated
repeated_add i zero w h = rw (add-zero i, append-nil)
repeated_add i (suc n) w h =
    let e : i + suc n ≡ suc (i + n) = omega arith in
    let m : (i + n) % 4 ≡ n % 4 = omega arith in
    rw (e, m, repeated_add i n w h) (append_assoc (repeated i w) (repeated n w) (get_or w (n % 4) 0 ∷ []))

-- its first bytes
front_repeated : (n k : ℕ) (w : List ℕ) → k ≤ n → part (repeated n w) 0 k ≡ repeated k w
front_repeated n k w h =
    let e : length (part (repeated n w) 0 k) ≡ k = length_part (repeated n w) 0 k (omega (arith, length-repeated n w)) in
    ext_get_or 0 (part (repeated n w) 0 k) (repeated k w)
    (e ∙ sym (length-repeated k w))
    (λ i l.
    let q : i < k = omega arith in
    get_or_part (repeated n w) 0 k i q
    ∙ ap (λ (x : ℕ). get_or (repeated n w) x 0) (zero-add i)
    ∙ get_or_repeated n w i (omega arith)
    ∙ sym (get_or_repeated k w i q))

-- its bytes from a whole word on
pub part-repeated : (n at k : ℕ) (w : List ℕ) → at % 4 ≡ 0 → at + k ≤ n → part (repeated n w) at k ≡ repeated k w
part-repeated n at k w m h =
    let e : n ≡ at + (n - at) = omega arith in
    ap (λ (x : ℕ). part (repeated x w) at k) e
    ∙ ap (λ (x : List ℕ). part x at k) (repeated_add at (n - at) w m)
    ∙ part_right (repeated at w) (repeated (n - at) w) at 0 k (omega (arith, length-repeated at w))
    ∙ front_repeated (n - at) k w (omega arith)

-- four bytes once, and twice
pub repeated_once : (w : List ℕ) → length w ≡ 4 → repeated 4 w ≡ w
repeated_once w e =
    ext_get_or 0 (repeated 4 w) w (length-repeated 4 w ∙ sym e)
    (λ i l.
    let h : i < 4 = omega (arith, length-repeated 4 w) in
    get_or_repeated 4 w i h ∙ ap (λ (k : ℕ). get_or w k 0) (mod-eq_of_lt h))

pub repeated_twice : (w : List ℕ) → length w ≡ 4 → repeated 8 w ≡ w ++ w
repeated_twice w e = repeated_add 4 4 w refl ∙ ap (λ (r : List ℕ). r ++ r) (repeated_once w e)

-- ---- the first place at which two lists differ

-- the first places of two lists are the same, or they are not
pub differs_later_on : (xs ys : List ℕ) (i : ℕ) → i < length xs → i < length ys → get_or xs i 0 ≡ get_or ys i 0
    → difference_from i (drop i xs) (drop i ys) ≡ difference_from (i + 1) (drop (i + 1) xs) (drop (i + 1) ys)
unfolding difference_from
differs_later_on xs ys i hx hy e = rw (add-one, drop-cons xs i 0 hx, drop-cons ys i 0 hy, eq-eqb _ _ e)

pub differs_here : (xs ys : List ℕ) (i : ℕ) → i < length xs → i < length ys → (get_or xs i 0 ≡ get_or ys i 0 → ⊥)
    → difference_from i (drop i xs) (drop i ys) ≡ Some i
unfolding difference_from
differs_here xs ys i hx hy ne = rw (drop-cons xs i 0 hx, drop-cons ys i 0 hy, ne_eqb _ _ ne)

-- so lists whose first i elements are the same, and not the next, differ first there
pub differs_at : (k : ℕ) (xs ys : List ℕ) (i : ℕ) → i < length xs → i < length ys → ((j : ℕ) → j < i → get_or xs j 0 ≡ get_or ys j 0)
    → (get_or xs i 0 ≡ get_or ys i 0 → ⊥) → difference_from k xs ys ≡ Some (k + i)
unfolding difference_from
differs_at k [] ys i hx hy h ne = absurd (omega arith)
differs_at k (x ∷ xs) [] i hx hy h ne = absurd (omega arith)
differs_at k (x ∷ xs) (y ∷ ys) zero hx hy h ne = rw (ne_eqb x y ne, add-zero)
differs_at k (x ∷ xs) (y ∷ ys) (suc i) hx hy h ne =
    let e : k + suc i ≡ suc k + i = omega arith in
    rw (eq-eqb x y (h 0 (omega arith)), e) (differs_at (suc k) xs ys i (omega arith) (omega arith) (λ j g. h (suc j) (omega arith)) ne)

-- nothing is left
pub differs_nowhere : (xs ys : List ℕ) (i : ℕ) → length xs ≤ i → difference_from i (drop i xs) ys ≡ None
unfolding difference_from
differs_nowhere xs ys i h = rw (drop_all i xs h)

-- a place at which two lists differ is a place of the first
within : (k : ℕ) (xs ys : List ℕ) (o : ℕ) → difference_from k xs ys ≡ Some o → o < k + length xs
unfolding difference_from
within k [] ys o e = absurd (let z : ◌≡◌ {A = ℕ} 0 1 = cc in omega arith)
within k (x ∷ xs) [] o e = let z : k ≡ o = cc in omega arith
within k (x ∷ xs) (y ∷ ys) o e = go (eqb x y) (within (suc k) xs ys o) e
  where
    go : (b : Bool) → (difference_from (suc k) xs ys ≡ Some o → o < suc k + length xs) → cond b (difference_from (suc k) xs ys) (Some k) ≡ Some o
        → o < k + suc (length xs)
    go true ih f = omega (arith, ih f)
    go false ih f = let z : k ≡ o = cc in omega arith

pub differs_within : (xs ys : List ℕ) (o : ℕ) → difference xs ys ≡ Some o → o < length xs
differs_within xs ys o e = omega (arith, within 0 xs ys o e)

-- and so one of the part that was compared
pub part-within : (l : List ℕ) (at n : ℕ) (ys : List ℕ) (r : Option ℕ) (o : ℕ) → at + n ≤ length l → r ≡ difference (part l at n) ys → r ≡ Some o → o < n
part-within l at n ys r o h e g = omega (arith, differs_within (part l at n) ys o (sym e ∙ g), length_part l at n h)

-- a place counted from k is one counted from 0 and k more
differs_later : (k j : ℕ) (xs ys : List ℕ) → difference_from (k + j) xs ys ≡ option_map (λ o. k + o) (difference_from j xs ys)
unfolding difference_from
differs_later k j [] ys = refl
differs_later k j (x ∷ xs) [] = refl
differs_later k j (x ∷ xs) (y ∷ ys) = go (eqb x y) (rw (← add-suc k j) (differs_later k (suc j) xs ys))
  where
    go : (b : Bool) → difference_from (suc (k + j)) xs ys ≡ option_map (λ o. k + o) (difference_from (suc j) xs ys)
        → cond b (difference_from (suc (k + j)) xs ys) (Some (k + j)) ≡ option_map (λ o. k + o) (cond b (difference_from (suc j) xs ys) (Some j))
    go true ih = ih
    go false ih = refl

-- lists that are followed by others differ first in themselves or else in those
differs_both : (k : ℕ) (xs ys zs us : List ℕ) → length xs ≡ length ys
    → difference_from k (xs ++ zs) (ys ++ us) ≡ option_or (difference_from k xs ys) (difference_from (length xs + k) zs us)
unfolding difference_from
differs_both k [] [] zs us e = rw (zero-add k)
differs_both k [] (y ∷ ys) zs us e = absurd (omega arith)
differs_both k (x ∷ xs) [] zs us e = absurd (omega arith)
differs_both k (x ∷ xs) (y ∷ ys) zs us e =
    let n : length xs + suc k ≡ suc (length xs) + k = omega arith in
    go (eqb x y) (rw n at (differs_both (suc k) xs ys zs us (omega arith)))
  where
    go : (b : Bool) → difference_from (suc k) (xs ++ zs) (ys ++ us) ≡ option_or (difference_from (suc k) xs ys) (difference_from (suc (length xs) + k) zs us)
        → cond b (difference_from (suc k) (xs ++ zs) (ys ++ us)) (Some k)
        ≡ option_or (cond b (difference_from (suc k) xs ys) (Some k)) (difference_from (suc (length xs) + k) zs us)
    go true ih = ih
    go false ih = refl

-- lists that are the same differ nowhere, and lists of one length that differ nowhere are the same
pub same_from : (k : ℕ) (l : List ℕ) → difference_from k l l ≡ None
unfolding difference_from
same_from k [] = refl
same_from k (x ∷ xs) = rw (eq-eqb x x refl, same_from (suc k) xs)

pub same_nowhere : (l : List ℕ) → difference l l ≡ None
same_nowhere l = same_from 0 l

pub nowhere_from : {xs ys : List ℕ} → xs ≡ ys → difference xs ys ≡ None
nowhere_from {xs} {ys} e = rw e (same_nowhere ys)

pub nowhere_same : (k : ℕ) (xs ys : List ℕ) → length xs ≡ length ys → difference_from k xs ys ≡ None → xs ≡ ys
unfolding difference_from
nowhere_same k [] [] e d = refl
nowhere_same k [] (y ∷ ys) e d = absurd (omega arith)
nowhere_same k (x ∷ xs) [] e d = absurd (omega arith)
nowhere_same k (x ∷ xs) (y ∷ ys) e d = go (ℕ_discrete x y) (nowhere_same (suc k) xs ys (omega arith))
  where
    go : Dec (x ≡ y) → (difference_from (suc k) xs ys ≡ None → xs ≡ ys) → x ∷ xs ≡ y ∷ ys
    go (yes q) ih = rw (q, ih (sym (ap (λ (b : Bool). cond b (difference_from (suc k) xs ys) (Some k)) (eq-eqb x y q)) ∙ d))
    go (no q) ih =
        let f : ◌≡◌ {A = Option ℕ} (Some k) None = sym (ap (λ (b : Bool). cond b (difference_from (suc k) xs ys) (Some k)) (ne_eqb x y q)) ∙ d in
        absurd (let z : ◌≡◌ {A = ℕ} 0 1 = cc in omega arith)

-- ---- runs that are filled or compared from the front

-- n bytes more of a run are filled
pub fill_more : (l s t vs : List ℕ) (at i n p e : ℕ) (w : List ℕ) → s ≡ sets l at (repeated i w) → t ≡ sets s p vs → vs ≡ repeated n w
    → at + i ≡ p → i + n ≡ e → i % 4 ≡ 0 → t ≡ sets l at (repeated e w)
fill_more l s t vs at i n p e w es et ev ep ee h =
    rw (et, es, ev, ← ee, repeated_add i n w h) (sets_then l at i p (repeated i w) (repeated n w) (length-repeated i w) ep)

-- the run is cut at i, behind whole words
module _ (s : List ℕ) (at i n len : ℕ) (w : List ℕ) (fits : at + len ≤ length s) (whole : i % 4 ≡ 0) (sum : i + n ≡ len) where
  cut : difference (part s at len) (repeated len w)
      ≡ option_or (difference (part s at i) (repeated i w)) (option_map (λ o. i + o) (difference (part s (at + i) n) (repeated n w)))
  cut =
      let e : length (part s at i) ≡ i = length_part s at i (omega arith) in
      let z : i + 0 ≡ i = omega arith in
      rw (← sum, ← part_two s at i n, repeated_add i n w whole)
      (differs_both 0 (part s at i) (repeated i w) (part s (at + i) n) (repeated n w) (e ∙ sym (length-repeated i w))
      ∙ ap (λ (d : Option ℕ). option_or (difference (part s at i) (repeated i w)) d)
      (ap (λ (k : ℕ). difference_from (k + 0) (part s (at + i) n) (repeated n w)) e ∙ differs_later i 0 (part s (at + i) n) (repeated n w)))

  -- what is found in the first i bytes is the run's first difference
  pub run_front : (o : ℕ) {r : Option ℕ} → r ≡ difference (part s at i) (repeated i w) → r ≡ Some o → Some o ≡ difference (part s at len) (repeated len w)
  run_front o {r} e d = rw (cut, ← e, d)

  -- where nothing is, it is what is found behind them
  pub run_behind : {r d : Option ℕ} → r ≡ difference (part s at i) (repeated i w) → r ≡ None
      → d ≡ difference (part s (at + i) n) (repeated n w) → option_map (λ o. i + o) d ≡ difference (part s at len) (repeated len w)
  run_behind {r} {d} e nowhere f = rw (cut, ← e, nowhere, f)

-- a place at which the run differs is a place of the run
pub run-within : (s : List ℕ) (at len : ℕ) (w : List ℕ) → at + len ≤ length s → (o : ℕ) (d : Option ℕ)
    → d ≡ difference (part s at len) (repeated len w) → d ≡ Some o → o < len
run-within s at len w fits o d e g = part-within s at len (repeated len w) d o fits e g

-- the word 0 again and again is 0 again and again
zero_byte : (k : ℕ) → get_or {A = ℕ} (replicate 4 0) k 0 ≡ 0
zero_byte zero = refl
zero_byte (suc zero) = refl
zero_byte (suc (suc zero)) = refl
zero_byte (suc (suc (suc zero))) = refl
zero_byte (suc (suc (suc (suc k)))) = refl

pub repeated-none : (n : ℕ) → repeated n (replicate 4 0) ≡ replicate n 0
repeated-none n =
    ext_get_or 0 (repeated n (replicate 4 0)) (replicate n 0) (length-repeated n (replicate 4 0) ∙ sym (length-replicate n 0))
    (λ i l.
    let h : i < n = omega (arith, length-repeated n (replicate 4 0)) in
    get_or_repeated n (replicate 4 0) i h ∙ zero_byte (i % 4) ∙ sym (get_or-replicate n i 0 0 h))
