-- The laws of findings: rows that are written one after the other, and what an inspection is. Assumes nothing.
use Rattle.std.specs.Prelude.{Ok, Err}
use mathlib.Core.Path.{◌≡◌, refl, sym, ap, ◌∙◌, subst}
use mathlib.Core.Bool.{true}
use mathlib.Core.List.{List}
use Prim.Native.Nat.{ℕ, zero, suc, ◌≤◌, ◌<◌}
use native.Mathlib.Omega.{arith}
use native.Mathlib.Decide.{ℕ_discrete}
use borrow.Author.Tests.{le-leb, lt-leb}
use lib.ListN.{length, get_or, set, length-set}
use lib.Seq.{get_or-set_same, get_or-set_other}
use Rattle.tags.specs.Filling.{unfilled}
use Rattle.tags.specs.declared.refusal.Refusal.{Refusal}
use Rattle.tags.specs.declared.refusal.Refusal.TheVariants.{ShortOutput}
use Rattle.geometry.specs.Limits.{lawful}
use Rattle.geometry.specs.declared.sheet.Sheet.{Sheet}
use Rattle.geometry.proofs.Sheets.{lawful_known}
use Rattle.sheet.specs.Areas.{Image}
use Rattle.chain.specs.Marks.{marked_of}
use Rattle.chain.specs.declared.walk.Walked.{Walked}
use Rattle.chain.proofs.Markings.{marked_passes, marked_refuses}
use Rattle.image.specs.Inspect.{Inspection, filled, inspected, inspection_of}
use Rattle.image.specs.declared.inspect.Finding.{Finding}

-- ---- a row of findings

-- there are as many rows as before, a row below n holds its finding, and a row from n on is as it was
pub filled-length : (f : ℕ → Finding) (rows : List Finding) (n : ℕ) → length (filled f rows n) ≡ length rows
filled-length f rows zero = refl
filled-length f rows (suc n) = length-set (filled f rows n) n (f n) ∙ filled-length f rows n

pub filled_past : (f : ℕ → Finding) (rows : List Finding) (n j : ℕ) (d : Finding) → n ≤ j → get_or (filled f rows n) j d ≡ get_or rows j d
filled_past f rows zero j d l = refl
filled_past f rows (suc n) j d l =
    get_or-set_other (filled f rows n) n j (f n) d (λ e. omega (arith, l, e)) ∙ filled_past f rows n j d (omega (arith, l))

pub filled_below : (f : ℕ → Finding) (rows : List Finding) (n j : ℕ) (d : Finding) → j < n → n ≤ length rows → get_or (filled f rows n) j d ≡ f j
filled_below f rows zero j d l m = absurd (omega (arith, l))
filled_below f rows (suc n) j d l m = go (ℕ_discrete j n) (filled_below f rows n j d)
  where
    go : Dec (j ≡ n) → (j < n → n ≤ length rows → get_or (filled f rows n) j d ≡ f j) → get_or (set (filled f rows n) n (f n)) j d ≡ f j
    go (yes e) ih =
        ap (λ (k : ℕ). get_or (set (filled f rows n) n (f n)) k d) e
        ∙ get_or-set_same (filled f rows n) n (f n) d (subst (λ (z : ℕ). n < z) (sym (filled-length f rows n)) (omega (arith, m)))
        ∙ ap f (sym e)
    go (no ne) ih = get_or-set_other (filled f rows n) n j (f n) d ne ∙ ih (omega (arith, l, ne)) (omega (arith, m))

-- ---- an inspection

-- a mark for each buffer has room in the array of them
pub count_small : (g : Sheet) → lawful g ≡ true → g.count ≤ 512
count_small g l = omega (arith, (lawful_known g l).sizes.few)

-- what an inspection is where the list is refused
abbrev shut : List Finding → Refusal → Inspection
shut rows why = unfilled (Err why) rows

module _ (m : Image) (rows : List Finding) where
  pub inspection_refused : (why : Refusal) → Err why ≡ marked_of m.sheet m.records m.magazines → inspection_of m rows ≡ unfilled (Err why) rows
  unfolding inspection_of
  inspection_refused why e = marked_refuses m.sheet m.records m.magazines _ (shut rows) why (sym e)

  module _ (w : Walked) (e : Ok w ≡ marked_of m.sheet m.records m.magazines) where
    pub inspection_short : length rows < m.sheet.count → inspection_of m rows ≡ unfilled (Err ShortOutput) rows
    unfolding inspection_of
    inspection_short l = rw (lt-leb m.sheet.count (length rows) l) (marked_passes m.sheet m.records m.magazines _ (shut rows) w (sym e))

    pub inspection_whole : m.sheet.count ≤ length rows → inspection_of m rows ≡ inspected m rows
    unfolding inspection_of
    inspection_whole l = rw (le-leb m.sheet.count (length rows) l) (marked_passes m.sheet m.records m.magazines _ (shut rows) w (sym e))
