-- The laws of marking: what it answers, and what that says of the magazine list. Assumes nothing.
use Rattle.std.specs.Prelude.{Result, Ok, Err}
use mathlib.Core.Path.{◌≡◌, refl, sym, ap, subst, ◌∙◌}
use mathlib.Core.Bool.{Bool, true, false, cond}
use mathlib.Core.List.{List}
use Prim.Native.Nat.{ℕ, ◌≤◌, ◌<◌}
use native.Mathlib.Omega.{arith}
use borrow.Author.Tests.{le-leb, lt-leb}
use lib.Dec.{leb}
use lib.ListN.{length}
use Rattle.tags.specs.declared.refusal.Refusal.{Refusal}
use Rattle.tags.specs.declared.refusal.Refusal.TheVariants.{BadLength, NoSuchBuffer}
use Rattle.geometry.specs.declared.sheet.Sheet.{Sheet}
use Rattle.sheet.specs.Areas.{all_buffers, by_magazines}
use Rattle.chain.specs.Chain.{chain_in}
use Rattle.chain.specs.Marks.{walked_of, marks_in, marked_of, MarksIf}
use Rattle.chain.specs.declared.walk.Walked.{Walked}

module _ (g : Sheet) (records l : List ℕ) where
  -- by the tests of the list
  pub marked-long : g.count < length l → marked_of g records l ≡ Err BadLength
  unfolding marked_of
  marked-long h = rw (lt-leb (length l) g.count h)

  pub marked_stray : length l ≤ g.count → all_buffers g l ≡ false → marked_of g records l ≡ Err NoSuchBuffer
  unfolding marked_of
  marked_stray h a = rw (le-leb (length l) g.count h, a)

  pub marked_well : length l ≤ g.count → all_buffers g l ≡ true → marked_of g records l ≡ Ok (walked_of (chain_in g records))
  unfolding marked_of
  marked_well h a = rw (le-leb (length l) g.count h, a)

  -- what holds of the chain where the list is lawful, and of each refusal where it is not, holds of the answer and of what is said by the same tests
  by_list : {A : Type 0} (x : A) (shut : Refusal → A) (P : Result Walked Refusal → A → Type 0) → P (Ok (walked_of (chain_in g records))) x
      → ((why : Refusal) → P (Err why) (shut why)) → P (marked_of g records l) (by_magazines g l x shut)
  unfolding marked_of
  by_list {A} x shut P h k = go (leb (length l) g.count) (all_buffers g l)
    where
      go : (a b : Bool) → P (cond a (cond b (Ok (walked_of (chain_in g records))) (Err NoSuchBuffer)) (Err BadLength))
          (cond a (cond b x (shut NoSuchBuffer)) (shut BadLength))
      go true true = h
      go true false = k NoSuchBuffer
      go false b = k BadLength

  pub marked-chain : (w : Walked) → marked_of g records l ≡ Ok w → w ≡ walked_of (chain_in g records)
  marked-chain w =
      by_list tt (λ _. tt) (λ (r : Result Walked Refusal) (x : Unit {0}). r ≡ Ok w → w ≡ walked_of (chain_in g records))
      (λ e. let z : walked_of (chain_in g records) ≡ w = cc in sym z) (λ why e. absurd (let z : ◌≡◌ {A = ℕ} 0 1 = cc in omega arith))

  module _ {A : Type 0} (x : A) (shut : Refusal → A) where
    pub marked_passes : (w : Walked) → marked_of g records l ≡ Ok w → by_magazines g l x shut ≡ x
    marked_passes w =
        by_list x shut (λ (r : Result Walked Refusal) (y : A). r ≡ Ok w → y ≡ x)
        (λ e. refl) (λ why e. absurd (let z : ◌≡◌ {A = ℕ} 0 1 = cc in omega arith))

    pub marked_refuses : (why : Refusal) → marked_of g records l ≡ Err why → by_magazines g l x shut ≡ shut why
    marked_refuses why =
        by_list x shut (λ (r : Result Walked Refusal) (y : A). r ≡ Err why → y ≡ shut why)
        (λ e. absurd (let z : ◌≡◌ {A = ℕ} 0 1 = cc in omega arith)) (λ other e. let z : other ≡ why = cc in ap shut z)

-- the bytes are the marks and w is the chain of an image whose list is not refused
pub record Marks (g : Sheet) (records l bytes : List ℕ) (w : Walked) : Type 0 where
  pub are : bytes ≡ marks_in g records l
  pub walked : w ≡ walked_of (chain_in g records)
  pub well : marked_of g records l ≡ Ok w

pub marks_known : (g : Sheet) (records l bytes : List ℕ) (r : Result Walked Refusal) (w : Walked) → r ≡ Ok w → r ≡ marked_of g records l
    → MarksIf r bytes (marks_in g records l) → Marks g records l bytes w
marks_known g records l bytes r w e a m =
    let well = sym a ∙ e in
    record { are = subst (λ (x : Result Walked Refusal). MarksIf x bytes (marks_in g records l)) e m; walked = marked-chain g records l w well; well = well }
