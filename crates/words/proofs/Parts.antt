-- The laws of a part of a list, of runs written into it, of places of one width and of parts one after the other, each stated once over offset and length.
-- Assumes nothing.
use Rattle.std.proofs.Common.{◌≡◌, ℕ, zero, suc, ◌+◌, ◌-◌, ◌*◌, ◌<◌, ◌≤◌, ◌≢◌, ◌⊎◌, List, [], ◌∷◌, ◌++◌, length, get_or, take, drop, set, sym, refl, ap, ◌∙◌, subst, inl, inr, append_assoc, append-nil, add-zero, add-suc, mul-le-mul_right, suc-mul, zero-add, zero-mul, add-one, arith, length-append, length-drop, length-set, take-append-drop, length-take, length-take-le, get_or-drop, drop-cons, get_or-take, take-take, drop-drop, take_at, drop-set-lt, take-add, drop_at}
use native.Mathlib.Decide.{ℕ_discrete, dec_le}
use lib.ListN.{get_or-append}
use lib.Seq.{sets, sets-eq, length-sets, take-length, drop-length, drop-append-le, drop-append-add, take-append-le, take-append_seam}
use lib.Seq.{drop-set-add, take-set-le, take-set-lt, set-append_left}
use Rattle.words.specs.Word.{part, flat}

-- ---- a part of a list

pub length_part : (l : List ℕ) (at len : ℕ) → at + len ≤ length l → length (part l at len) ≡ len
unfolding part
length_part l at len h = simp (length-take, length-drop) (omega arith)

pub get_or_part : (l : List ℕ) (at len i : ℕ) → i < len → get_or (part l at len) i 0 ≡ get_or l (at + i) 0
unfolding part
get_or_part l at len i h = get_or-take len (drop at l) i 0 h ∙ get_or-drop at l i 0

pub part_none : (l : List ℕ) (at : ℕ) → part l at 0 ≡ []
unfolding part
part_none l at = refl

pub part_cons : (l : List ℕ) (at len : ℕ) → at < length l → part l at (suc len) ≡ get_or l at 0 ∷ part l (at + 1) len
unfolding part
part_cons l at len h = rw (drop-cons l at 0 h, add-one)

-- the part that code lends from `at` to `at + len`
pub part-lent : (l : List ℕ) (at len : ℕ) → take (at + len - at) (drop at l) ≡ part l at len
unfolding part
part-lent l at len = let e : at + len - at ≡ len = omega arith in rw e

inner : (o k len : ℕ) (l : List ℕ) → o + k ≤ len → take k (drop o (take len l)) ≡ take k (drop o l)
inner zero k len l h = take-take k len l (omega arith)
inner (suc o) k zero l h = absurd (omega arith)
inner (suc o) k (suc len) [] h = refl
inner (suc o) k (suc len) (x ∷ xs) h = inner o k len xs (omega arith)

-- a part of a part
pub part-part : (l : List ℕ) (at len o k : ℕ) → o + k ≤ len → part (part l at len) o k ≡ part l (at + o) k
unfolding part
part-part l at len o k h = inner o k len (drop at l) h ∙ ap (take k) (drop-drop o at l)

-- a part of two lists one after the other that lies in the first
pub part_left : (xs ys : List ℕ) (at len : ℕ) → at + len ≤ length xs → part (xs ++ ys) at len ≡ part xs at len
unfolding part
part_left xs ys at len h =
    ap (take len) (drop-append-le at xs ys (omega arith))
    ∙ take-append-le len (drop at xs) ys (simp length-drop (omega arith))

-- and one that lies in the second
pub part_right : (xs ys : List ℕ) (at o k : ℕ) → length xs + o ≡ at → part (xs ++ ys) at k ≡ part ys o k
unfolding part
part_right xs ys at o k e =
    subst (λ (x : ℕ). part (xs ++ ys) x k ≡ part ys o k) e (ap (take k) (drop-append-add xs ys o))

-- two parts one after the other
pub part_two : (l : List ℕ) (at j k : ℕ) → part l at j ++ part l (at + j) k ≡ part l at (j + k)
unfolding part
part_two l at j k = ap (λ (r : List ℕ). take j (drop at l) ++ take k r) (sym (drop-drop j at l)) ∙ sym (take-add j k (drop at l))

pub part_all : (l : List ℕ) (n : ℕ) → length l ≡ n → part l 0 n ≡ l
unfolding part
part_all l n e = rw (← e) (take-length l)

pub part_front : (xs ys : List ℕ) (n : ℕ) → length xs ≡ n → part (xs ++ ys) 0 n ≡ xs
part_front xs ys n e = part_left xs ys 0 n (omega arith) ∙ part_all xs n e

-- ---- a run of bytes is written

-- one run after another is one run
pub sets_append : (l : List ℕ) (at : ℕ) (xs ys : List ℕ) → sets (sets l at xs) (at + length xs) ys ≡ sets l at (xs ++ ys)
sets_append l at [] ys = ap (λ (k : ℕ). sets l k ys) (add-zero at)
sets_append l at (x ∷ xs) ys =
    let e : at + suc (length xs) ≡ suc at + length xs = omega arith in
    ap (λ (k : ℕ). sets (sets (set l at x) (suc at) xs) k ys) e ∙ sets_append (set l at x) (suc at) xs ys

pub sets_then : (l : List ℕ) (at n e : ℕ) (xs ys : List ℕ) → length xs ≡ n → at + n ≡ e → sets (sets l at xs) e ys ≡ sets l at (xs ++ ys)
sets_then l at n e xs ys len eq =
    ap (λ (k : ℕ). sets (sets l at xs) k ys) (sym eq ∙ ap (λ (k : ℕ). at + k) (sym len)) ∙ sets_append l at xs ys

-- `vs` is written behind `p`, which stands from b on
pub sets-next : (l p vs : List ℕ) (b n at : ℕ) {s t : List ℕ} → s ≡ sets l b p → length p ≡ n → b + n ≡ at → t ≡ sets s at vs → t ≡ sets l b (p ++ vs)
sets-next l p vs b n at {s} {t} es len e et = rw (et, es) (sets_then l b n at p vs len e)

-- three runs in a row are one run
pub sets_three : (l p q r : List ℕ) (at i j : ℕ) {a b c : List ℕ} → at + length p ≡ i → i + length q ≡ j
    → a ≡ sets l at p → b ≡ sets a i q → c ≡ sets b j r → c ≡ sets l at (p ++ q ++ r)
sets_three l p q r at i j {a} {b} {c} ei ej ea eb ec =
    sets-next l (p ++ q) r at (length p + length q) j (sets-next l p q at (length p) i ea refl ei eb) (length-append p q) (omega arith) ec

set_append_add : (xs ys : List ℕ) (at o a : ℕ) → length xs + o ≡ at → set (xs ++ ys) at a ≡ xs ++ set ys o a
set_append_add [] ys at o a e = ap (λ (k : ℕ). set ys k a) (omega arith)
set_append_add (x ∷ xs) ys zero o a e = absurd (omega arith)
set_append_add (x ∷ xs) ys (suc at) o a e = ap (λ (r : List ℕ). x ∷ r) (set_append_add xs ys at o a (omega arith))

-- a run written in the first of two lists
sets-left : (vs xs ys : List ℕ) (o : ℕ) → o + length vs ≤ length xs → sets (xs ++ ys) o vs ≡ sets xs o vs ++ ys
sets-left [] xs ys o h = refl
sets-left (a ∷ vs) xs ys o h =
    ap (λ (x : List ℕ). sets x (suc o) vs) (set-append_left xs ys o a (omega arith))
    ∙ sets-left vs (set xs o a) ys (suc o) (omega (arith, length-set xs o a))

-- and in the second
pub sets_right : (xs ys vs : List ℕ) (at o : ℕ) → length xs + o ≡ at → sets (xs ++ ys) at vs ≡ xs ++ sets ys o vs
sets_right xs ys [] at o e = refl
sets_right xs ys (a ∷ vs) at o e =
    ap (λ (x : List ℕ). sets x (suc at) vs) (set_append_add xs ys at o a e)
    ∙ sets_right xs (set ys o a) vs (suc at) (suc o) (omega arith)

-- a run written at the front
pub sets_front : (l vs : List ℕ) → length vs ≤ length l → sets l 0 vs ≡ vs ++ drop (length vs) l
sets_front l vs h = sets-eq vs l 0 (omega arith) ∙ ap (λ (n : ℕ). vs ++ drop n l) (zero-add (length vs))

-- a list that is written over whole
pub sets-whole : (l vs : List ℕ) → length vs ≡ length l → sets l 0 vs ≡ vs
sets-whole l vs e = sets_front l vs (omega arith) ∙ ap (λ (r : List ℕ). vs ++ r) (rw e (drop-length l)) ∙ append-nil vs

-- a run written over one as long, between two others
pub sets_mid : (xs ys zs vs : List ℕ) (at : ℕ) → length xs ≡ at → length ys ≡ length vs → sets (xs ++ (ys ++ zs)) at vs ≡ xs ++ (vs ++ zs)
sets_mid xs ys zs vs at ex ey =
    let l = xs ++ (ys ++ zs) in
    let e : length (xs ++ ys) ≡ at + length vs = omega (arith, length-append xs ys) in
    sets-eq vs l at (omega (arith, length-append xs (ys ++ zs), length-append ys zs))
    ∙ ap (λ (r : List ℕ). r ++ vs ++ drop (at + length vs) l) (take_at xs (ys ++ zs) at ex)
    ∙ ap (λ (r : List ℕ). xs ++ vs ++ drop (at + length vs) r) (sym (append_assoc xs ys zs))
    ∙ ap (λ (r : List ℕ). xs ++ vs ++ r) (drop_at (xs ++ ys) zs (at + length vs) e)
    ∙ append_assoc xs vs zs

-- a run written behind the first `at` elements
sets_behind : (l vs : List ℕ) (at o : ℕ) → at ≤ length l → sets l (at + o) vs ≡ take at l ++ sets (drop at l) o vs
sets_behind l vs at o h =
    ap (λ (x : List ℕ). sets x (at + o) vs) (sym (take-append-drop at l))
    ∙ sets_right (take at l) (drop at l) vs (at + o) o (ap (λ (n : ℕ). n + o) (length-take-le at l h))

-- a run written over a run, which stands at the front, or at an offset
over_front : (l vs ws : List ℕ) (o : ℕ) → o + length ws ≤ length vs → length vs ≤ length l → sets (sets l 0 vs) o ws ≡ sets l 0 (sets vs o ws)
over_front l vs ws o h k =
    ap (λ (x : List ℕ). sets x o ws) (sets_front l vs k)
    ∙ sets-left ws vs (drop (length vs) l) o h
    ∙ ap (λ (n : ℕ). sets vs o ws ++ drop n l) (sym (length-sets vs o ws))
    ∙ sym (sets_front l (sets vs o ws) (omega (arith, length-sets vs o ws)))

pub sets_over : (l vs ws : List ℕ) (at o : ℕ) → o + length ws ≤ length vs → at + length vs ≤ length l
    → sets (sets l at vs) (at + o) ws ≡ sets l at (sets vs o ws)
sets_over l vs ws at o h k =
    ap (λ (x : List ℕ). sets x (at + o) ws) (behind vs)
    ∙ sets_right (take at l) (sets (drop at l) 0 vs) ws (at + o) o (ap (λ (n : ℕ). n + o) (length-take-le at l (omega arith)))
    ∙ ap (λ (r : List ℕ). take at l ++ r) (over_front (drop at l) vs ws o h (omega (arith, length-drop at l)))
    ∙ sym (behind (sets vs o ws))
  where
    behind : (us : List ℕ) → sets l at us ≡ take at l ++ sets (drop at l) 0 us
    behind us = ap (λ (n : ℕ). sets l n us) (sym (add-zero at)) ∙ sets_behind l us at 0 (omega arith)

-- a run written where it stands
same_front : (l : List ℕ) (k : ℕ) → k ≤ length l → sets l 0 (take k l) ≡ l
same_front l k h =
    sets_front l (take k l) (omega (arith, length-take-le k l h))
    ∙ ap (λ (n : ℕ). take k l ++ drop n l) (length-take-le k l h)
    ∙ take-append-drop k l

pub sets_same : (l : List ℕ) (at k : ℕ) → at + k ≤ length l → sets l at (part l at k) ≡ l
unfolding part
sets_same l at k h =
    ap (λ (n : ℕ). sets l n (take k (drop at l))) (sym (add-zero at))
    ∙ sets_behind l (take k (drop at l)) at 0 (omega arith)
    ∙ ap (λ (r : List ℕ). take at l ++ r) (same_front (drop at l) k (omega (arith, length-drop at l)))
    ∙ take-append-drop at l

-- a part that was lent comes back as `vs`
pub part_back : (l vs : List ℕ) (at n : ℕ) → length vs ≡ n → at + n ≤ length l → take at l ++ (vs ++ drop n (drop at l)) ≡ sets l at vs
part_back l vs at n ev h =
    sym
    (sets-eq vs l at (omega arith)
    ∙ append_assoc (take at l) vs (drop (at + length vs) l)
    ∙ ap (λ (r : List ℕ). take at l ++ (vs ++ r)) (ap (λ (x : ℕ). drop (at + x) l) ev ∙ sym (drop-drop n at l)))

-- what was written is read back
pub part_written : (l vs : List ℕ) (at n : ℕ) → length vs ≡ n → at + n ≤ length l → part (sets l at vs) at n ≡ vs
unfolding part
part_written l vs at n e h = subst (λ (x : ℕ). part (sets l at vs) at x ≡ vs) e (same (omega arith))
  where
    same : at + length vs ≤ length l → part (sets l at vs) at (length vs) ≡ vs
    same g =
        ap (λ (r : List ℕ). take (length vs) (drop at r)) (sets-eq vs l at g ∙ append_assoc (take at l) vs (drop (at + length vs) l))
        ∙ ap (take (length vs)) (drop_at (take at l) (vs ++ drop (at + length vs) l) at (length-take-le at l (omega arith)))
        ∙ take-append_seam vs (drop (at + length vs) l)

set_before : (l : List ℕ) (i a at len : ℕ) → at + len ≤ i → part (set l i a) at len ≡ part l at len
unfolding part
set_before l i a at len h =
    let k = i - at in
    let e : at + k ≡ i = omega arith in
    subst (λ (x : ℕ). take len (drop at (set l x a)) ≡ take len (drop at l)) e
    (ap (take len) (drop-set-add at l k a) ∙ take-set-le len (drop at l) k a (omega arith))

-- a read before a written run, and one behind it
pub part-before : (vs l : List ℕ) (i at len : ℕ) → at + len ≤ i → part (sets l i vs) at len ≡ part l at len
part-before [] l i at len h = refl
part-before (a ∷ vs) l i at len h = part-before vs (set l i a) (suc i) at len (omega arith) ∙ set_before l i a at len h

pub part-after : (vs l : List ℕ) (i at len : ℕ) → i + length vs ≤ at → part (sets l i vs) at len ≡ part l at len
unfolding part
part-after [] l i at len h = refl
part-after (a ∷ vs) l i at len h =
    part-after vs (set l i a) (suc i) at len (omega arith) ∙ ap (take len) (drop-set-lt at l i a (omega arith))

-- a read outside a written run
pub part_outside : (vs l : List ℕ) (i at len : ℕ) → (at + len ≤ i) ⊎ (i + length vs ≤ at) → part (sets l i vs) at len ≡ part l at len
part_outside vs l i at len (inl h) = part-before vs l i at len h
part_outside vs l i at len (inr h) = part-after vs l i at len h

drop-sets : (vs l : List ℕ) (at o : ℕ) → drop at (sets l (at + o) vs) ≡ sets (drop at l) o vs
drop-sets [] l at o = refl
drop-sets (a ∷ vs) l at o =
    ap (λ (x : ℕ). drop at (sets (set l (at + o) a) x vs)) (sym (add-suc at o))
    ∙ drop-sets vs (set l (at + o) a) at (suc o)
    ∙ ap (λ (x : List ℕ). sets x (suc o) vs) (drop-set-add at l o a)

take-sets : (vs l : List ℕ) (len o : ℕ) → o + length vs ≤ len → take len (sets l o vs) ≡ sets (take len l) o vs
take-sets [] l len o h = refl
take-sets (a ∷ vs) l len o h =
    take-sets vs (set l o a) len (suc o) (omega arith)
    ∙ ap (λ (x : List ℕ). sets x (suc o) vs) (take-set-lt len l o a (omega arith))

-- a write inside a part is a write of the part
pub part_inside : (vs l : List ℕ) (at len o : ℕ) → o + length vs ≤ len → part (sets l (at + o) vs) at len ≡ sets (part l at len) o vs
unfolding part
part_inside vs l at len o h = ap (take len) (drop-sets vs l at o) ∙ take-sets vs (drop at l) len o h

-- ---- places of `s` bytes, one after the other

pub below : {i n : ℕ} (s : ℕ) → i < n → i * s + s ≤ n * s
below {i} {n} s h = omega (arith, mul-le-mul_right s h, suc-mul i s)

-- place i is written at its byte p, and k bytes of place j from its byte o on are read
module _ (vs l : List ℕ) (s i p j o k : ℕ) (hp : p + length vs ≤ s) (ho : o + k ≤ s) where
  -- another place
  pub part-place : j ≢ i → part (sets l (i * s + p) vs) (j * s + o) k ≡ part l (j * s + o) k
  part-place ne = go (dec_le i j)
    where
      go : Dec (i ≤ j) → part (sets l (i * s + p) vs) (j * s + o) k ≡ part l (j * s + o) k
      go (yes h) = part-after vs l (i * s + p) (j * s + o) k (let g : i < j = omega arith in omega (arith, below s g))
      go (no h) = part-before vs l (i * s + p) (j * s + o) k (let g : j < i = omega arith in omega (arith, below s g))

  -- other bytes, of whichever place
  pub part_field : (o + k ≤ p) ⊎ (p + length vs ≤ o) → part (sets l (i * s + p) vs) (j * s + o) k ≡ part l (j * s + o) k
  part_field d = go (ℕ_discrete j i)
    where
      there : (o + k ≤ p) ⊎ (p + length vs ≤ o) → j ≡ i → part (sets l (i * s + p) vs) (j * s + o) k ≡ part l (j * s + o) k
      there (inl h) e = part-before vs l (i * s + p) (j * s + o) k (omega (arith, ap (λ (x : ℕ). x * s) e))
      there (inr h) e = part-after vs l (i * s + p) (j * s + o) k (omega (arith, ap (λ (x : ℕ). x * s) e))

      go : Dec (j ≡ i) → part (sets l (i * s + p) vs) (j * s + o) k ≡ part l (j * s + o) k
      go (yes e) = there d e
      go (no ne) = part-place ne

-- ---- parts one after the other

pub flat_nil : (f : ℕ → List ℕ) → flat 0 f ≡ []
unfolding flat
flat_nil f = refl

pub flat-suc : (f : ℕ → List ℕ) (n : ℕ) → flat (suc n) f ≡ flat n f ++ f n
unfolding flat
flat-suc f n = refl

pub flat-same : (f g : ℕ → List ℕ) (n : ℕ) → ((i : ℕ) → i < n → f i ≡ g i) → flat n f ≡ flat n g
unfolding flat
flat-same f g zero h = refl
flat-same f g (suc n) h = rw (flat-same f g n (λ i l. h i (omega arith)), h n (omega arith))

-- those of two counts one after the other
pub flat_add : (f : ℕ → List ℕ) (m n : ℕ) → flat (m + n) f ≡ flat m f ++ flat n (λ i. f (m + i))
unfolding flat
flat_add f m zero = rw (add-zero m) (sym (append-nil (flat m f)))
flat_add f m (suc n) = rw (add-suc m n, flat_add f m n) (append_assoc (flat m f) (flat n (λ i. f (m + i))) (f (m + n)))

-- of s bytes each
module _ (s : ℕ) (f : ℕ → List ℕ) (size : (i : ℕ) → length (f i) ≡ s) where
  pub length-flat : (n : ℕ) → length (flat n f) ≡ n * s
  unfolding flat
  length-flat zero = sym (zero-mul s)
  length-flat (suc n) = simp (length-append, length-flat n, size, suc-mul)

  last : (n : ℕ) → part (flat n f ++ f n) (n * s) s ≡ f n
  last n = part_right (flat n f) (f n) (n * s) 0 s (omega (arith, length-flat n)) ∙ part_all (f n) s (size n)

  pub part-flat : (n i : ℕ) → i < n → part (flat n f) (i * s) s ≡ f i
  unfolding flat
  part-flat zero i h = absurd (omega arith)
  part-flat (suc n) i h = go (ℕ_discrete i n) (part-flat n i)
    where
      go : Dec (i ≡ n) → (i < n → part (flat n f) (i * s) s ≡ f i) → part (flat n f ++ f n) (i * s) s ≡ f i
      go (yes e) ih = subst (λ (x : ℕ). part (flat n f ++ f n) (x * s) s ≡ f x) (sym e) (last n)
      go (no ne) ih =
          let g : i < n = omega arith in
          part_left (flat n f) (f n) (i * s) s (omega (arith, below s g, length-flat n)) ∙ ih g

  pub get_or_flat : (n i k : ℕ) → i < n → k < s → get_or (flat n f) (i * s + k) 0 ≡ get_or (f i) k 0
  get_or_flat n i k h l = sym (get_or_part (flat n f) (i * s) s k l) ∙ ap (λ (x : List ℕ). get_or x k 0) (part-flat n i h)

  -- a number of the parts that are written over l
  pub get_or_written : (l : List ℕ) (n i k : ℕ) → n * s ≤ length l → i < n → k < s → get_or (sets l 0 (flat n f)) (i * s + k) 0 ≡ get_or (f i) k 0
  get_or_written l n i k h p q =
      let z = length-flat n in
      ap (λ (x : List ℕ). get_or x (i * s + k) 0) (sets_front l (flat n f) (omega arith))
      ∙ get_or-append (flat n f) (drop (length (flat n f)) l) 0 (i * s + k) (omega (arith, below s p))
      ∙ get_or_flat n i k p q

  -- no part is written yet over l, one part more, and all of them
  pub flat-none : (l : List ℕ) → l ≡ sets l 0 (flat 0 f)
  unfolding flat
  flat-none l = refl

  pub flat_more : (l : List ℕ) (i : ℕ) {a b : List ℕ} → a ≡ sets l 0 (flat i f) → b ≡ sets a (i * s) (f i) → b ≡ sets l 0 (flat (i + 1) f)
  unfolding flat
  flat_more l i {a} {b} ea eb = rw add-one (sets-next l (flat i f) (f i) 0 (i * s) (i * s) ea (length-flat i) (omega arith) eb)

  pub flat-whole : (l : List ℕ) (i n : ℕ) {a : List ℕ} → length l ≡ n * s → a ≡ sets l 0 (flat i f) → i ≡ n → a ≡ flat n f
  flat-whole l i n {a} len ea e = ea ∙ ap (λ (k : ℕ). sets l 0 (flat k f)) e ∙ sets-whole l (flat n f) (length-flat n ∙ sym len)
