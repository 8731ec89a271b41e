-- The laws of the own record: it is the one record that names a buffer, where one alone does. Assumes nothing.
use Rattle.std.specs.Prelude.{Some, None}
use mathlib.Core.Path.{◌≡◌, refl, sym, ap, ◌∙◌}
use mathlib.Core.Logic.{◌≢◌, ⊎_elim}
use mathlib.Core.Bool.{true, false}
use mathlib.Core.List.{List, [], ◌∷◌}
use Prim.Native.Nat.{ℕ, zero, suc, ◌+◌, ◌<◌}
use native.Mathlib.Nat.{le_step, le_of_suc-le-suc, not-suc-le-zero}
use native.Mathlib.Numerals.{add-one}
use native.Mathlib.Omega.{arith}
use borrow.Author.Tests.{eq-eqb, ne_eqb, eqb-true, eqb-false}
use lib.Arith.{lt_of_le-ne}
use lib.Dec.{eqb}
use lib.ListN.{length}
use Rattle.area.specs.Record.{address_word}
use Rattle.area.proofs.Places.{tested}
use Rattle.geometry.specs.Sheet.{buffer_address}
use Rattle.geometry.specs.declared.sheet.Sheet.{Sheet}
use Rattle.chain.specs.Pairing.{namers, the_one, own_in}
use Rattle.chain.specs.Marks.{to_two, names_after}

-- ---- the records that name a buffer

-- the one of a list
single : (l : List ℕ) → to_two (length l) ≡ 1 → (k : ℕ) × (l ≡ k ∷ [])
single [] e = absurd (omega arith)
single (k ∷ []) e = (k, refl)
single (k ∷ (m ∷ l)) e = absurd (omega arith)

not_single : (l : List ℕ) → to_two (length l) ≢ 1 → the_one l ≡ None
not_single [] d = refl
not_single (k ∷ []) d = absurd (d refl)
not_single (k ∷ (m ∷ l)) d = refl

the_one_lem : (l : List ℕ) (j : ℕ) → the_one l ≡ Some j → l ≡ j ∷ []
the_one_lem [] j e = let z : ◌≡◌ {A = ℕ} 0 1 = cc in absurd (omega arith)
the_one_lem (k ∷ []) j e = let s : k ≡ j = cc in ap (λ (x : ℕ). x ∷ []) s
the_one_lem (k ∷ (m ∷ l)) j e = let z : ◌≡◌ {A = ℕ} 0 1 = cc in absurd (omega arith)

-- a record of the list names the buffer
first_names : (word : ℕ → ℕ) (n a k : ℕ) (l : List ℕ) → namers word n a ≡ k ∷ l → (k < n) × (word k ≡ a)
unfolding namers
first_names word zero a k l e = let z : ◌≡◌ {A = ℕ} 0 1 = cc in absurd (omega arith)
first_names word (suc m) a k l e =
    ⊎_elim
    (λ (t : eqb (word m) a ≡ true). let r : m ∷ namers word m a ≡ k ∷ l = simp t at e in
    let s : m ≡ k = cc in (omega arith, ap word (sym s) ∙ eqb-true (word m) a t))
    (λ (t : eqb (word m) a ≡ false). let h = first_names word m a k l (simp t at e) in (le_step h.0, h.1))
    (tested (eqb (word m) a))

none_names : (word : ℕ → ℕ) (n a : ℕ) → namers word n a ≡ [] → (j : ℕ) → j < n → word j ≢ a
unfolding namers
none_names word zero a e j h q = not-suc-le-zero h
none_names word (suc m) a e j h q =
    ⊎_elim
    (λ (t : eqb (word m) a ≡ true). let r : m ∷ namers word m a ≡ [] = simp t at e in let z : ◌≡◌ {A = ℕ} 0 1 = cc in omega arith)
    (λ (t : eqb (word m) a ≡ false).
    none_names word m a (simp t at e) j (lt_of_le-ne (le_of_suc-le-suc h) (λ s. eqb-false (word m) a t (ap word (sym s) ∙ q))) q)
    (tested (eqb (word m) a))

-- and one that names it alone is the list's one
only_names : (word : ℕ → ℕ) (n a k : ℕ) → namers word n a ≡ k ∷ [] → (j : ℕ) → j < n → word j ≡ a → j ≡ k
unfolding namers
only_names word zero a k e j h q = absurd (not-suc-le-zero h)
only_names word (suc m) a k e j h q =
    ⊎_elim
    (λ (t : eqb (word m) a ≡ true). let r : m ∷ namers word m a ≡ k ∷ [] = simp t at e in
    let s : m ≡ k = cc in let w : namers word m a ≡ [] = cc in
    ⊎_elim (λ (u : eqb j m ≡ true). eqb-true j m u ∙ s)
    (λ (u : eqb j m ≡ false). absurd (none_names word m a w j (lt_of_le-ne (le_of_suc-le-suc h) (eqb-false j m u)) q)) (tested (eqb j m)))
    (λ (t : eqb (word m) a ≡ false).
    only_names word m a k (simp t at e) j (lt_of_le-ne (le_of_suc-le-suc h) (λ s. eqb-false (word m) a t (ap word (sym s) ∙ q))) q)
    (tested (eqb (word m) a))

-- ---- one pass for one buffer

-- the first of a list: the last record that names the buffer
abbrev pub first_of : List ℕ → ℕ
first_of [] = 0
first_of (k ∷ l) = k

-- how many of the first j records have the word a, and the last of them
pub record Found (word : ℕ → ℕ) (a j names last : ℕ) : Type 0 where
  pub names_are : names ≡ length (namers word j a)
  pub last_is : last ≡ first_of (namers word j a)

module _ (word : ℕ → ℕ) (a : ℕ) where
  pub found_none : Found word a 0 0 0
  unfolding namers
  found_none = record { names_are = refl; last_is = refl }

  pub found_hit : (j names last : ℕ) → word j ≡ a → Found word a j names last → Found word a (j + 1) (names + 1) j
  unfolding namers
  found_hit j names last e f =
      rw (add-one j) (record { names_are = simp (eq-eqb (word j) a e) (omega (arith, f.names_are)); last_is = simp (eq-eqb (word j) a e) })

  pub found_miss : (j names last : ℕ) → word j ≢ a → Found word a j names last → Found word a (j + 1) names last
  unfolding namers
  found_miss j names last e f =
      rw add-one (record { names_are = simp (ne_eqb (word j) a e) f.names_are; last_is = simp (ne_eqb (word j) a e) f.last_is })

one_of : (l : List ℕ) (names last : ℕ) → names ≡ length l → last ≡ first_of l → names ≡ 1 → the_one l ≡ Some last
one_of [] names last n e o = absurd (omega arith)
one_of (k ∷ []) names last n e o = ap Some (sym e)
one_of (k ∷ (m ∷ l)) names last n e o = absurd (omega arith)

none_of : (l : List ℕ) (names : ℕ) → names ≡ length l → names ≢ 1 → the_one l ≡ None
none_of [] names n d = refl
none_of (k ∷ []) names n d = absurd (d n)
none_of (k ∷ (m ∷ l)) names n d = refl

module _ (g : Sheet) (records : List ℕ) (i : ℕ) where
  -- the pass over all records
  module _ (j names last : ℕ) (e : j ≡ g.count) (f : Found (address_word g.format records) (buffer_address g i) j names last) where
    pub found_one : names ≡ 1 → own_in g records i ≡ Some last
    unfolding own_in
    found_one o = rw (← e) (one_of (namers (address_word g.format records) j (buffer_address g i)) names last f.names_are f.last_is o)

    pub found_other : names ≢ 1 → own_in g records i ≡ None
    unfolding own_in
    found_other d = rw (← e) (none_of (namers (address_word g.format records) j (buffer_address g i)) names f.names_are d)

  -- an own record is one of the n
  pub own_below : (j : ℕ) → own_in g records i ≡ Some j → j < g.count
  unfolding own_in
  own_below j e =
      (first_names (address_word g.format records) g.count (buffer_address g i) j []
      (the_one_lem (namers (address_word g.format records) g.count (buffer_address g i)) j e)).0

  -- ---- the own record by its count

  pub own-none : names_after g records g.count i ≢ 1 → own_in g records i ≡ None
  unfolding own_in
  own-none d = not_single (namers (address_word g.format records) g.count (buffer_address g i)) d

  pub own-some : names_after g records g.count i ≡ 1
      → (j : ℕ) × ((own_in g records i ≡ Some j) × ((j < g.count) × (address_word g.format records j ≡ buffer_address g i)))
  unfolding own_in
  own-some c =
      let s = single (namers (address_word g.format records) g.count (buffer_address g i)) c in
      (s.0, (ap the_one s.1, first_names (address_word g.format records) g.count (buffer_address g i) s.0 [] s.1))

  pub own_one : (j : ℕ) → names_after g records g.count i ≡ 1 → j < g.count → address_word g.format records j ≡ buffer_address g i
      → own_in g records i ≡ Some j
  unfolding own_in
  own_one j c l w =
      let s = single (namers (address_word g.format records) g.count (buffer_address g i)) c in
      ap the_one s.1 ∙ ap Some (sym (only_names (address_word g.format records) g.count (buffer_address g i) s.0 s.1 j l w))
