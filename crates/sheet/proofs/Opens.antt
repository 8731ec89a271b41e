-- What is known of an image that opens, by the equation of its opening alone. Assumes nothing.
use Rattle.std.specs.Prelude.{Result, Ok, Err}
use mathlib.Core.Path.{◌≡◌, refl, sym, ap, ◌∙◌, subst}
use mathlib.Core.Bool.{Bool, true, false, and-eq-true_iff, cond}
use mathlib.Core.List.{List}
use Prim.Native.Nat.{ℕ, ◌*◌, ◌≤◌}
use native.Mathlib.Omega.{arith}
use borrow.Author.Tests.{eqb-true}
use lib.Dec.{leb}
use lib.ListN.{length}
use Rattle.tags.specs.declared.format.Profile.{Profile}
use Rattle.tags.specs.declared.refusal.Refusal.{Refusal}
use Rattle.tags.specs.declared.refusal.Refusal.TheVariants.{BadSheet, BadNumber, BadLength, NoSuchBuffer}
use Rattle.words.proofs.Tests.{by_test, map_test}
use Rattle.sheet.specs.Areas.{all_buffers, by_magazines}
use Rattle.sheet.specs.declared.open_image.OpenImage.{OpenImage}
use Rattle.sheet.specs.Opening.{Open, lengths_right, areas_of, lengths_of, lengths}
use Rattle.sheet.specs.Fields.{short_length, shaped, order_number, order_lawful, sheet_of}
use Rattle.geometry.specs.Limits.{lawful, count_most}
use Rattle.area.specs.Record.{record_size}
use Rattle.geometry.specs.Sheet.{heap_length, records_length}
use Rattle.sheet.specs.Opening.{measured, numbered, ordered, opened_of, by_opened, opened_with_log}
use Rattle.history.specs.Log.{log_most, log_right}
use Rattle.history.proofs.Logs.{log_most_lem}
use Rattle.geometry.specs.declared.sheet.Sheet.{Sheet}
use Rattle.geometry.proofs.Sheets.{lawful_known, records-most}
use Rattle.sheet.proofs.Bytes.{shaped-long}

-- the profile of a sheet that is read is the caller's
pub profile_read : (p : Profile) (s : List ℕ) → (sheet_of p s).format.profile ≡ p
unfolding sheet_of
profile_read p s = refl

-- numbers that pass the tests 2 and 3
pub numbered_known : (g : Sheet) (h r : ℕ) (o : Sheet) → numbered g h r ≡ Ok o → (o ≡ g) × ((lawful o ≡ true) × Open h r o)
unfolding numbered measured
numbered_known g h r o e = go (lawful g) (lengths_right g h r) refl refl e
  where
    go : (a b : Bool) → lawful g ≡ a → lengths_right g h r ≡ b →
        cond a (cond b (Ok g) (Err BadLength)) (Err BadNumber) ≡ Ok o
        → (o ≡ g) × ((lawful o ≡ true) × Open h r o)
    go true true l m f =
        let z : g ≡ o = cc in
        let both = (and-eq-true_iff _ _).0 m in
        let opens : Open h r g = record { law = lawful_known g l; heap_long = eqb-true _ _ both.0; records_long = eqb-true _ _ both.1 } in
        (sym z, (subst (λ x. lawful x ≡ true) z l, subst (Open h r) z opens))
    go true false l m f = absurd (let z : ◌≡◌ {A = ℕ} 0 1 = cc in omega arith)
    go false b l m f = absurd (let z : ◌≡◌ {A = ℕ} 0 1 = cc in omega arith)

-- a sheet that opens: how long it is, its numbers, and that they are those of the areas
pub record Opens (p : Profile) (s : List ℕ) (h r : ℕ) (g : Sheet) : Type 0 where
  pub long : short_length ≤ length s
  pub same : g ≡ sheet_of p s
  pub law : lawful g ≡ true
  pub opens : Open h r g

pub opened_known : (p : Profile) (s : List ℕ) (h r : ℕ) (g : Sheet) → opened_of p s h r ≡ Ok g → Opens p s h r g
unfolding opened_of ordered
opened_known p s h r g e = go (shaped s) (order_lawful (order_number s)) refl e
  where
    go : (a b : Bool) → shaped s ≡ a
        → cond a (cond b (numbered (sheet_of p s) h r) (Err BadNumber)) (Err BadSheet) ≡ Ok g → Opens p s h r g
    go true true q f = let k = numbered_known (sheet_of p s) h r g f in record { long = shaped-long s q; same = k.0; law = k.1.0; opens = k.1.1 }
    go true false q f = absurd (let z : ◌≡◌ {A = ℕ} 0 1 = cc in omega arith)
    go false b q f = absurd (let z : ◌≡◌ {A = ℕ} 0 1 = cc in omega arith)

-- what the type of an open image says
pub open_known : (o : OpenImage) → Open (length o.heap.now) (length o.records.now) o.sheet
open_known o = record { law = lawful_known o.sheet o.law; heap_long = o.heap_long; records_long = o.records_long }

-- the same with a log
pub logged_known : (p : Profile) (s : List ℕ) (h r l : ℕ) (g : Sheet) → opened_with_log p s h r l ≡ Ok g → Opens p s h r g × (l ≤ log_most)
unfolding opened_with_log
logged_known p s h r l g e = go (opened_of p s h r) (log_right l) refl refl e
  where
    go : (o : Result Sheet Refusal) (b : Bool) → opened_of p s h r ≡ o → log_right l ≡ b
        → by_opened o (λ x. cond b (Ok x) (Err BadLength)) Err
        ≡ Ok g
        → Opens p s h r g × (l ≤ log_most)
    go (Ok x) true q k f =
        let z : x ≡ g = cc in
        (opened_known p s h r g (q ∙ ap Ok z), log_most_lem l k)
    go (Ok x) false q k f = absurd (let z : ◌≡◌ {A = ℕ} 0 1 = cc in omega arith)
    go (Err why) b q k f = absurd (let z : ◌≡◌ {A = ℕ} 0 1 = cc in omega arith)

-- the lengths that a sheet asks for are small
pub lengths_known : (p : Profile) (s : List ℕ) (h r : ℕ) → lengths_of p s ≡ Ok (lengths h r) → (h ≤ 65536) × (r ≤ count_most * record_size p)
unfolding lengths_of areas_of
lengths_known p s h r e = go (shaped s) (order_lawful (order_number s)) (lawful (sheet_of p s)) refl e
  where
    go : (a o b : Bool) → lawful (sheet_of p s) ≡ b
        → cond a
        (cond o (cond b (Ok (lengths (heap_length (sheet_of p s)) (records_length (sheet_of p s)))) (Err BadNumber)) (Err BadNumber))
        (Err BadSheet)
        ≡ Ok (lengths h r)
        → (h ≤ 65536) × (r ≤ count_most * record_size p)
    go true true true q f =
        let l = lawful_known (sheet_of p s) q in
        let z : lengths (heap_length (sheet_of p s)) (records_length (sheet_of p s)) ≡ lengths h r = cc in
        let x : heap_length (sheet_of p s) ≡ h = ap (λ k. k.heap) z in
        let y : records_length (sheet_of p s) ≡ r = ap (λ k. k.records) z in
        (omega (arith, l.sizes.area), omega (arith, records-most (sheet_of p s) l.sizes, ap record_size (profile_read p s)))
    go true true false q f = absurd (let z : ◌≡◌ {A = ℕ} 0 1 = cc in omega arith)
    go true false b q f = absurd (let z : ◌≡◌ {A = ℕ} 0 1 = cc in omega arith)
    go false o b q f = absurd (let z : ◌≡◌ {A = ℕ} 0 1 = cc in omega arith)

-- what holds of an image that opens, and of every refusal, holds by the opening
-- what holds of the rest where a magazine list is lawful, and of each refusal where it is not
pub by-magazines : {A : Type 0} {rest : A} {shut : Refusal → A} (P : A → Type 0) (g : Sheet) (l : List ℕ) → P rest → ((why : Refusal) → P (shut why))
    → P (by_magazines g l rest shut)
by-magazines {A} {rest} {shut} P g l h k =
    by_test P (leb (length l) g.count) (λ _. by_test P (all_buffers g l) (λ _. h) (λ _. k NoSuchBuffer)) (λ _. k BadLength)

-- what is made of the one or the other
pub map-magazines : {A B : Type 0} (h : A → B) (g : Sheet) (l : List ℕ) (rest : A) (shut : Refusal → A)
    → h (by_magazines g l rest shut) ≡ by_magazines g l (h rest) (λ why. h (shut why))
map-magazines h g l rest shut =
    map_test h (leb (length l) g.count) (cond (all_buffers g l) rest (shut NoSuchBuffer)) (shut BadLength)
    ∙ ap (λ x. cond (leb (length l) g.count) x (h (shut BadLength))) (map_test h (all_buffers g l) rest (shut NoSuchBuffer))

pub by-opened : {A : Type 0} {f : Sheet → A} {shut : Refusal → A} (P : A → Type 0) (o : Result Sheet Refusal)
    → ((g : Sheet) → o ≡ Ok g → P (f g)) → ((why : Refusal) → P (shut why)) → P (by_opened o f shut)
by-opened P (Ok g) h k = h g refl
by-opened P (Err why) h k = k why
