-- The areas as they are laid out have the invariant. Assumes nothing.
use Rattle.std.specs.Prelude.{Result, Ok, Err, None}
use Rattle.tags.specs.declared.refusal.Refusal.{Refusal}
use mathlib.Core.Path.{◌≡◌, refl, sym, ◌∙◌, subst}
use mathlib.Core.Bool.{Bool, true, false, cond}
use mathlib.Core.List.{List}
use Prim.Native.Nat.{ℕ, zero, suc, ◌+◌, ◌<◌}
use native.Mathlib.Decide.{dec_lt}
use native.Mathlib.Omega.{arith}
use lib.Dec.{eqb, lit<}
use lib.ListN.{length}
use Rattle.words.specs.Word.{flat}
use Rattle.words.proofs.Parts.{length-flat, part-flat}
use Rattle.tags.specs.Refusal.{done}
use Rattle.tags.specs.declared.format.Format.{Format}
use Rattle.tags.specs.declared.refusal.Refusal.TheVariants.{BadSheet, BadNumber, BadLength}
use Rattle.area.specs.Record.{record_size, next_at, buffer_at, address_word, next_word}
use Rattle.area.proofs.Records.{record_least, flat_word, whole-next, whole_name}
use Rattle.sheet.specs.Areas.{Areas, Outcome, outcome, refused_with}
use Rattle.sheet.specs.Fields.{sheet_length}
use Rattle.geometry.specs.Sheet.{laid_sheet, buffer_address}
use Rattle.geometry.specs.Limits.{lawful}
use Rattle.sheet.specs.Opening.{lengths_right, measured, numbered, by_opened}
use Rattle.geometry.specs.declared.sheet.Sheet.{Sheet}
use Rattle.geometry.proofs.Sheets.{lawful_known, buffer_word}
use Rattle.layout.specs.Layout.{laid_chunk, link_to, laid_record, laid_areas, lay_out_plan, lay_out_of}
use Rattle.layout.proofs.Layouts.{laid_chunk_long, laid_record_long, link_in, link_out}
use Rattle.chain.proofs.Chains.{Linked}
use Rattle.ledger.proofs.Counts.{range, occ-within, occ_above}
use Rattle.ledger.proofs.Invariant.{Laid, Invariant, record_fits, chunk_some}

module _ (g : Sheet) (laid : Laid g) where
  link_fits : (i : ℕ) → link_to g i < 4294967296
  link_fits i = go (dec_lt i g.count)
    where
      go : Dec (i < g.count) → link_to g i < 4294967296
      go (yes h) = omega (arith, link_in g i h, record_fits g laid i h)
      go (no h) = omega (arith, link_out g i (omega arith))

  laid_next : (j : ℕ) → j < g.count → next_word g.format (flat g.count (laid_record g)) j ≡ link_to g (suc j)
  laid_next j h =
      flat_word g.format (laid_record g) (laid_record_long g) g.count j next_at h (omega (arith, record_least g.format.profile))
      ∙ whole-next g.format (link_to g (suc j)) (buffer_address g j) g.cache (link_fits (suc j))

  laid_name : (j : ℕ) → j < g.count → address_word g.format (flat g.count (laid_record g)) j ≡ buffer_address g j
  laid_name j h =
      flat_word g.format (laid_record g) (laid_record_long g) g.count j buffer_at h (omega (arith, record_least g.format.profile))
      ∙ whole_name g.format (link_to g (suc j)) (buffer_address g j) g.cache (omega (arith, buffer_word g laid.law j h, chunk_some g laid))

  -- the records as they are laid out are linked from a word on
  abbrev LaidLinked : ℕ → List ℕ → Type 0
  LaidLinked w js =
      Linked (next_word g.format (flat g.count (laid_record g))) g.record_base (record_size g.format.profile) g.count w js

  laid_linked : (i m : ℕ) → i + m ≡ g.count → LaidLinked (link_to g i) (range i m)
  unfolding Linked range
  laid_linked i zero e = link_out g i (omega arith)
  laid_linked i (suc m) e =
      let h : i < g.count = omega arith in (
        h,
        (
          link_in g i h,
          subst (λ (x : ℕ). LaidLinked x (range (suc i) m))
              (sym (laid_next i h))
              (laid_linked (suc i) m (omega arith)),
        ),
      )

  pub laid_invariant : g.head ≡ g.record_base → Invariant g g.head (laid_areas g) (λ x. None) (range 0 g.count)
  unfolding laid_areas
  laid_invariant e = record {
    sheet_is = refl;
    heap_long = length-flat g.chunk (laid_chunk g) (laid_chunk_long g laid.law) g.count;
    records_long = length-flat (record_size g.format.profile) (laid_record g) (laid_record_long g) g.count;
    linked = subst (λ (x : ℕ). LaidLinked x (range 0 g.count))
        (link_in g 0 laid.law.sizes.some ∙ omega arith)
        (laid_linked 0 g.count (omega arith));
    each = λ j h. omega (arith, occ-within 0 g.count j (omega arith) (omega arith));
    only = λ j h. occ_above 0 g.count j (omega arith);
    chunks = λ j h. part-flat g.chunk (laid_chunk g) (laid_chunk_long g laid.law) g.count j h;
    names = laid_name;
    entries = λ j h. tt;
    stray = λ x h. refl;
  }

-- ---- an accepted lay out

three : (p q r : Bool) (a : Areas) (g : Sheet) →
    let o = cond p (cond q (cond r (Ok g) (Err BadLength)) (Err BadNumber)) (Err BadSheet) in
    let laid = by_opened {A = Outcome (Result ℕ Refusal)} o (λ s. outcome done (laid_areas s)) (λ why. refused_with (Err why) a) in
    laid.answer ≡ done → (q ≡ true) × (laid.areas ≡ laid_areas g)
three true true true a g e = (refl, refl)
three true true false a g e = absurd (let z : ◌≡◌ {A = ℕ} 0 1 = cc in omega arith)
three true false r a g e = absurd (let z : ◌≡◌ {A = ℕ} 0 1 = cc in omega arith)
three false q r a g e = absurd (let z : ◌≡◌ {A = ℕ} 0 1 = cc in omega arith)

-- its numbers passed, and its areas are those of the image laid out
pub accepted : (a : Areas) (f : Format) (cache heap records size n : ℕ) → (lay_out_of a f cache heap records size n).answer ≡ done
    → (lawful (laid_sheet f cache heap records size n) ≡ true)
    × ((lay_out_of a f cache heap records size n).areas ≡ laid_areas (laid_sheet f cache heap records size n))
unfolding lay_out_of lay_out_plan numbered measured
accepted a f cache heap records size n e =
    three (eqb (length a.sheet) sheet_length) (lawful (laid_sheet f cache heap records size n))
    (lengths_right (laid_sheet f cache heap records size n) (length a.heap) (length a.records)) a (laid_sheet f cache heap records size n) e

pub laid_known : (f : Format) (cache heap records size n : ℕ) → cache < 4294967296 → lawful (laid_sheet f cache heap records size n) ≡ true
    → Laid (laid_sheet f cache heap records size n)
laid_known f cache heap records size n h e = record {
  law = lawful_known (laid_sheet f cache heap records size n) e;
  passed = e;
  cache_fits = h;
  flags_fit = lit< tt;
}
