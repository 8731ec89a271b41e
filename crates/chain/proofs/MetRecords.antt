-- The laws of the records met: how often one stands in a list, the bytes that stand for them, and how many are not met yet. Assumes nothing.
use mathlib.Core.Bool.{cond}
use mathlib.Core.Path.{◌≡◌, refl, sym, ap, ◌∙◌}
use mathlib.Core.Logic.{◌≢◌}
use mathlib.Core.List.{List, [], ◌∷◌, ◌++◌}
use Prim.Native.Nat.{ℕ, zero, suc, ◌+◌, ◌*◌, ◌%◌, ◌≤◌, ◌<◌}
use native.Mathlib.Nat.{le_of_suc-le-suc, not-suc-le-zero}
use native.Mathlib.Decide.{ℕ_discrete}
use native.Mathlib.Omega.{arith}
use borrow.Author.Tests.{eq-eqb, ne_eqb}
use lib.Dec.{eqb}
use lib.ListN.{length, get_or, set, length-set}
use lib.Seq.{ext_get_or, get_or-set_same, get_or-set_other}
use Rattle.chain.specs.Chain.{occ}
use Rattle.chain.specs.Walk.{table, to_one, area_of, unmet}

-- ---- how often a number stands in a list

pub occ-none : (i : ℕ) → occ i [] ≡ 0
unfolding occ
occ-none i = refl

pub occ_cons : (i j : ℕ) (l : List ℕ) → occ i (j ∷ l) ≡ cond (eqb i j) 1 0 + occ i l
unfolding occ
occ_cons i j l = refl

pub occ_here : (i : ℕ) (l : List ℕ) → occ i (i ∷ l) ≡ suc (occ i l)
unfolding occ
occ_here i l = simp (eq-eqb i i refl) (omega arith)

pub occ-apart : (i j : ℕ) (l : List ℕ) → i ≢ j → occ i (j ∷ l) ≡ occ i l
unfolding occ
occ-apart i j l d = simp (ne_eqb i j d) (omega arith)

pub occ_append : (i : ℕ) (xs ys : List ℕ) → occ i (xs ++ ys) ≡ occ i xs + occ i ys
unfolding occ
occ_append i [] ys = omega arith
occ_append i (x ∷ xs) ys = let h = occ_append i xs ys in omega arith

-- what is put in front of one list is counted as in front of the other
pub occ_mid : (i j : ℕ) (xs ys : List ℕ) → occ i (xs ++ (j ∷ ys)) ≡ occ i (j ∷ (xs ++ ys))
unfolding occ
occ_mid i j xs ys = let a = occ_append i xs (j ∷ ys) in let b = occ_append i xs ys in omega arith

-- ---- tables

pub length-table : (n : ℕ) (f : ℕ → ℕ) → length (table n f) ≡ n
unfolding table
length-table zero f = refl
length-table (suc n) f = ap suc (length-table n (λ i. f (suc i)))

pub get_or_table : (n : ℕ) (f : ℕ → ℕ) (i : ℕ) → i < n → get_or (table n f) i 0 ≡ f i
unfolding table
get_or_table zero f i l = absurd (not-suc-le-zero l)
get_or_table (suc n) f zero l = refl
get_or_table (suc n) f (suc i) l = get_or_table n (λ j. f (suc j)) i (le_of_suc-le-suc l)

-- a list is a table where each element is
pub is-table : (l : List ℕ) (n : ℕ) (f : ℕ → ℕ) → length l ≡ n → ((i : ℕ) → i < n → get_or l i 0 ≡ f i) → l ≡ table n f
is-table l n f e h =
    ext_get_or 0 l (table n f) (e ∙ sym (length-table n f)) (λ i lt. let b : i < n = omega arith in h i b ∙ sym (get_or_table n f i b))

-- an element of a table is changed
pub table-set : (n i v : ℕ) (f g : ℕ → ℕ) → i < n → g i ≡ v → ((j : ℕ) → j ≢ i → g j ≡ f j) → set (table n f) i v ≡ table n g
table-set n i v f g h e o =
    is-table (set (table n f) i v) n g (simp (length-set, length-table)) (λ j lt. at j lt (ℕ_discrete j i))
  where
    at : (j : ℕ) → j < n → Dec (j ≡ i) → get_or (set (table n f) i v) j 0 ≡ g j
    at j lt (yes q) = ap (λ (k : ℕ). get_or (set (table n f) i v) k 0) q ∙ get_or-set_same (table n f) i v 0 (simp length-table h) ∙ sym e ∙ ap g (sym q)
    at j lt (no d) = get_or-set_other (table n f) i j v 0 d ∙ get_or_table n f j lt ∙ sym (o j d)

-- ---- the bytes of the area

one_none : (k : ℕ) → to_one k ≡ 0 → k ≡ 0
one_none zero e = refl
one_none (suc k) e = absurd (omega arith)

pub one_most : (k : ℕ) → to_one k ≤ 1
one_most zero = omega arith
one_most (suc k) = omega arith

module _ (n : ℕ) (rest : ℕ → ℕ) (l : List ℕ) where
  pub length-area : length (area_of n rest l) ≡ n
  length-area = length-table n (λ i. to_one (occ i l) + 2 * rest i)

  pub area_at : (i : ℕ) → i < n → get_or (area_of n rest l) i 0 ≡ to_one (occ i l) + 2 * rest i
  area_at i h = get_or_table n (λ j. to_one (occ j l) + 2 * rest j) i h

  -- the lowest bit tells whether a record is in the list
  pub area_bit : (area : List ℕ) (i : ℕ) → area ≡ area_of n rest l → i < n → get_or area i 0 % 2 ≡ to_one (occ i l)
  area_bit area i e h =
      let b : get_or area i 0 ≡ to_one (occ i l) + 2 * rest i = ap (λ (a : List ℕ). get_or a i 0) e ∙ area_at i h in
      let m = one_most (occ i l) in omega arith

  pub not-met : (area : List ℕ) (i : ℕ) → area ≡ area_of n rest l → i < n → get_or area i 0 % 2 ≡ 0 → occ i l ≡ 0
  not-met area i e h z = one_none (occ i l) (sym (area_bit area i e h) ∙ z)

  pub is-met : (area : List ℕ) (i : ℕ) → area ≡ area_of n rest l → i < n → get_or area i 0 % 2 ≢ 0 → occ i l ≢ 0
  is-met area i e h d z = d (area_bit area i e h ∙ ap to_one z)

  -- a record more is met
  pub area-meets : (area : List ℕ) (i : ℕ) → area ≡ area_of n rest l → i < n → get_or area i 0 % 2 ≡ 0
      → set area i (get_or area i 0 + 1) ≡ area_of n rest (i ∷ l)
  area-meets area i e h z =
      let b : get_or area i 0 ≡ to_one (occ i l) + 2 * rest i = ap (λ (a : List ℕ). get_or a i 0) e ∙ area_at i h in
      let o = ap to_one (not-met area i e h z) in
      let s = ap to_one (occ_here i l) in
      ap (λ (a : List ℕ). set a i (get_or area i 0 + 1)) e
      ∙ table-set n i _ (λ j. to_one (occ j l) + 2 * rest j) (λ j. to_one (occ j (i ∷ l)) + 2 * rest j) h (omega arith)
      (λ j d. ap (λ (k : ℕ). to_one k + 2 * rest j) (occ-apart j i l d))

-- the order of what is met does not matter
pub area_mid : (n : ℕ) (rest : ℕ → ℕ) (i : ℕ) (xs ys : List ℕ) → area_of n rest (xs ++ (i ∷ ys)) ≡ area_of n rest (i ∷ (xs ++ ys))
area_mid n rest i xs ys = λ k. table n (λ j. to_one (occ_mid j i xs ys k) + 2 * rest j)

-- ---- the records not met yet

pub unmet-most : (m : List ℕ) → unmet m ≤ length m
unfolding unmet
unmet-most [] = omega arith
unmet-most (b ∷ m) = let h = unmet-most m in omega arith

pub unmet-set : (m : List ℕ) (i : ℕ) → i < length m → get_or m i 0 % 2 ≡ 0 → unmet m ≡ suc (unmet (set m i (get_or m i 0 + 1)))
unfolding unmet
unmet-set [] i l e = absurd (not-suc-le-zero l)
unmet-set (b ∷ m) zero l e = omega arith
unmet-set (b ∷ m) (suc i) l e = let h = unmet-set m i (le_of_suc-le-suc l) e in omega arith

-- nothing stands above the marks
abbrev pub none : ℕ → ℕ
none i = 0

-- how many of n records are not in the list
abbrev pub left : ℕ → List ℕ → ℕ
left n l = unmet (area_of n none l)

pub left-most : (n : ℕ) (l : List ℕ) → left n l ≤ n
left-most n l = let h = unmet-most (area_of n none l) in let e = length-area n none l in omega arith

pub left_fewer : (n i : ℕ) (l : List ℕ) → i < n → occ i l ≡ 0 → left n l ≡ suc (left n (i ∷ l))
left_fewer n i l h e =
    let z : get_or (area_of n none l) i 0 % 2 ≡ 0 = area_bit n none l (area_of n none l) i refl h ∙ ap to_one e in
    unmet-set (area_of n none l) i (simp length-table h) z
    ∙ ap (λ (k : List ℕ). suc (unmet k)) (area-meets n none l (area_of n none l) i refl h z)
