-- The numbers from one on, and the ledger's map. Assumes nothing.
use Rattle.std.specs.Prelude.{None, Option}
use mathlib.Core.Path.{◌≡◌, refl, sym, ap, ◌∙◌, subst}
use mathlib.Core.Logic.{◌≢◌}
use mathlib.Core.List.{List, [], ◌∷◌}
use Prim.Native.Nat.{ℕ, zero, suc, ◌+◌, ◌≤◌, ◌<◌}
use native.Mathlib.Decide.{ℕ_discrete}
use native.Mathlib.Omega.{arith}
use borrow.Author.Tests.{eq-eqb, ne_eqb}
use Rattle.area.specs.Place.{place_address, place_of}
use Rattle.chain.specs.Chain.{occ}
use Rattle.area.proofs.Places.{address_one, place_missed}
use Rattle.chain.proofs.MetRecords.{occ-none, occ_here, occ-apart}
use Rattle.ledger.specs.Ledger.{Entry, put}

-- ---- the numbers from one on

-- i, i + 1, .. : m numbers
unfoldable pub range : ℕ → ℕ → List ℕ
range i zero = []
range i (suc m) = i ∷ range (suc i) m

pub occ_below : (i m x : ℕ) → x < i → occ x (range i m) ≡ 0
unfolding range
occ_below i zero x h = occ-none x
occ_below i (suc m) x h = occ-apart x i (range (suc i) m) (omega arith) ∙ occ_below (suc i) m x (omega arith)

pub occ_above : (i m x : ℕ) → i + m ≤ x → occ x (range i m) ≡ 0
unfolding range
occ_above i zero x h = occ-none x
occ_above i (suc m) x h = occ-apart x i (range (suc i) m) (omega arith) ∙ occ_above (suc i) m x (omega arith)

pub occ-within : (i m x : ℕ) → i ≤ x → x < i + m → occ x (range i m) ≡ 1
unfolding range
occ-within i zero x h k = absurd (omega arith)
occ-within i (suc m) x h k = go (ℕ_discrete x i) (occ-within (suc i) m x)
  where
    go : Dec (x ≡ i) → (suc i ≤ x → x < suc i + m → occ x (range (suc i) m) ≡ 1) → occ x (i ∷ range (suc i) m) ≡ 1
    go (yes e) ih = rw (← e) (occ_here x (range (suc x) m) ∙ ap suc (occ_below (suc x) m x (omega arith)))
    go (no ne) ih = occ-apart x i (range (suc i) m) ne ∙ ih (omega arith) (omega arith)

-- ---- the ledger's map

pub put_same : (a : ℕ) (o : Option Entry) (f : ℕ → Option Entry) → put a o f a ≡ o
unfolding put
put_same a o f = rw (eq-eqb a a refl)

pub put_other : (a x : ℕ) (o : Option Entry) (f : ℕ → Option Entry) → x ≢ a → put a o f x ≡ f x
unfolding put
put_other a x o f ne = rw (ne_eqb x a ne)

module _ (base stride n j : ℕ) (some-stride : 0 < stride) (o : Option Entry) (f : ℕ → Option Entry) where
  -- what holds of the new entry and of each other one
  pub at_put : (P : ℕ → Option Entry → Type 0) → P j o → ((i : ℕ) → i < n → i ≢ j → P i (f (place_address base stride i)))
      → (i : ℕ) → i < n → P i (put (place_address base stride j) o f (place_address base stride i))
  at_put P here there i h = go (ℕ_discrete i j)
    where
      go : Dec (i ≡ j) → P i (put (place_address base stride j) o f (place_address base stride i))
      go (yes e) =
          subst (λ (x : ℕ). P x (put (place_address base stride j) o f (place_address base stride x))) (sym e)
          (subst (P j) (sym (put_same (place_address base stride j) o f)) here)
      go (no ne) =
          subst (P i) (sym (put_other (place_address base stride j) (place_address base stride i) o f (λ e. ne (address_one base stride i j some-stride e))))
          (there i h ne)

  -- an address that is no buffer's
  pub stray_put : (x : ℕ) → j < n → place_of base stride n x ≡ None → put (place_address base stride j) o f x ≡ f x
  stray_put x h e = put_other (place_address base stride j) x o f (place_missed base stride n x some-stride e j h)
