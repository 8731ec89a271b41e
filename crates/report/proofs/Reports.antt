-- How long the text of an image can be, and that a text that is answered is short and fits the output. Assumes nothing.
use Rattle.std.specs.Prelude.{Option, Some, None, Result, Ok, Err}
use Rattle.std.specs.Option.{ok_or}
use mathlib.Core.Path.{◌≡◌, refl, sym, ap, ◌∙◌}
use mathlib.Core.List.{List, ◌++◌}
use Prim.Native.Nat.{ℕ, ◌≤◌}
use native.Mathlib.Omega.{arith}
use lib.ListN.{length, take, replicate}
use lib.Seq.{length-take-le}
use Rattle.tags.specs.Filling.{Filling, filling, unfilled, told}
use Rattle.tags.specs.declared.refusal.Refusal.TheVariants.{ShortOutput}
use Rattle.tags.specs.declared.format.Profile.{Profile}
use Rattle.tags.specs.declared.ending.Ending.{Ending}
use Rattle.geometry.specs.Limits.{SizesOf}
use Rattle.tags.specs.declared.refusal.Refusal.{Refusal}
use Rattle.sheet.specs.Areas.{Areas, Image, image_with, opening_with_log, by_magazines}
use Rattle.sheet.specs.Lent.{seen, sheet_open}
use Rattle.sheet.specs.declared.lent.Image.{Image as Lent}
use Rattle.sheet.specs.declared.open_image.OpenImage.{OpenImage}
use Rattle.sheet.proofs.Opens.{logged_known, by-opened, by-magazines}
use Rattle.chain.specs.Chain.{chain_of}
use Rattle.chain.specs.Marks.{marked_of}
use Rattle.chain.specs.declared.walk.Walked.{Walked}
use Rattle.chain.proofs.Markings.{marked_passes, marked_refuses}
use Rattle.verdicts.specs.Marked.{image_with_list}
use Rattle.verdicts.specs.Judge.{verdict_of}
use Rattle.chain.proofs.Chains.{chain_short, ending_below}
use Rattle.lines.specs.Text.{header_of, lines_of, chain_line_of, faults_in, faults_of, longest, writing}
use Rattle.lines.proofs.Texts.{verdict_small, text_is, text_short, written_known}
use Rattle.report.specs.Answer.{number_of, value_of, report_text, reported_by, reporting, report_image, report_of}
use Rattle.report.proofs.Values.{value_small}

-- ---- the text

pub report_text_short : (m : Image) → SizesOf m.sheet → length (report_text m) ≤ longest m.sheet.count
unfolding report_text
report_text_short m s =
    text_short (number_of m) (value_of m) m.sheet.count (length (chain_of m).met) (chain_of m).ending (omega (arith, s.few))
    (λ i h. (verdict_small (verdict_of m i), omega (arith, value_small m i, s.chunks, s.most)))
    (omega (arith, chain_short m.sheet m.records, s.few))
    (omega (arith, ending_below m.sheet m.records s, s.few))

-- the pieces, where all lines are put and their faults counted
pub report_is : (m : Image) (i faults met : ℕ) (ending : Ending) → i ≡ m.sheet.count → faults ≡ faults_in (number_of m) i
    → met ≡ length (chain_of m).met → ending ≡ (chain_of m).ending
    → header_of ++ lines_of (number_of m) (value_of m) i ++ chain_line_of met ending ++ faults_of faults ≡ report_text m
unfolding report_text
report_is m i faults met ending e f k q = rw (k, q) (text_is (number_of m) (value_of m) i m.sheet.count faults _ _ e f)

-- ---- the answer

-- the report of an open image, by what marking answers
module _ (m : Image) (output : List ℕ) where
  pub image_reported : (w : Walked) → marked_of m.sheet m.records m.magazines ≡ Ok w
      → report_image m output ≡ reporting (report_text m) output
  unfolding report_image
  image_reported w e =
      marked_passes m.sheet m.records m.magazines (reporting (report_text m) output) (λ (why : Refusal). unfilled (Err why) output) w e

  pub image_refused : (why : Refusal) → marked_of m.sheet m.records m.magazines ≡ Err why
      → report_image m output ≡ unfilled (Err why) output
  unfolding report_image
  image_refused why e =
      marked_refuses m.sheet m.records m.magazines (reporting (report_text m) output) (λ (why : Refusal). unfilled (Err why) output) why e

  -- where its text was written, or had no room
  pub image_told : (w : Walked) → marked_of m.sheet m.records m.magazines ≡ Ok w → {r : Option ℕ} {x : List ℕ} {a : Result ℕ Refusal}
      → filling r x ≡ writing (report_text m) output → a ≡ ok_or r ShortOutput → report_image m output ≡ filling a x
  image_told w e {r} {x} f g = image_reported w e ∙ ap (told reported_by) (sym f) ∙ ap (λ y. filling y x) (reported r ∙ sym g)
    where
      reported : (r : Option ℕ) → reported_by r ≡ ok_or r ShortOutput
      reported (Some n) = refl
      reported None = refl

-- ---- what a call answers, by what its image opens as

module _ (p : Profile) (i : Lent) (r : Result OpenImage Refusal) (l : List ℕ) (n : ℕ) (output : List ℕ)
    (is : sheet_open r ≡ opening_with_log p (seen i) n) where
  pub report_shut : (why : Refusal) → r ≡ Err why → report_of p (seen i) l n output ≡ filling (Err why) output
  unfolding report_of
  report_shut why e = rw (← is, e)

  pub report_opened : (o : OpenImage) → r ≡ Ok o → (o.heap ≡ i.heap) × (o.records ≡ i.records)
      → report_of p (seen i) l n output ≡ report_image (image_with_list o l) output
  unfolding report_of report_image
  report_opened o e a = rw (← is, e, a.0, a.1)

-- the first n bytes of the marks' area
pub part_long : (n : ℕ) → n ≤ 512 → length {A = ℕ} (take n (replicate 512 0)) ≡ n
part_long n h = length-take-le n (replicate 512 0) h

-- a text that was written is told by its length
reporting_known : (text output : List ℕ) (k : ℕ) → (reporting text output).answer ≡ Ok k → (k ≡ length text) × (k ≤ length output)
reporting_known text output k = go (writing text output).answer (writing text output).rows refl
  where
    go : (w : Option ℕ) (x : List ℕ) → filling w x ≡ writing text output → reported_by w ≡ Ok k → (k ≡ length text) × (k ≤ length output)
    go (Some n) x e f = let z : Some n ≡ Some k = cc in written_known text output (Some n) x k e z
    go None x e f = absurd (let z : ◌≡◌ {A = ℕ} 0 1 = cc in omega arith)

-- a refused report has no length
no_length : (why : Refusal) (k : ℕ) → Err why ≡ Ok k → ⊥
no_length why k q = let z : ◌≡◌ {A = ℕ} 0 1 = cc in omega arith

report_known : (p : Profile) (a : Areas) (l : List ℕ) (n : ℕ) (output : List ℕ) (k : ℕ) → (report_of p a l n output).answer ≡ Ok k
    → (k ≤ 65535) × (k ≤ length output)
unfolding report_of
report_known p a l n output k =
    by-opened {f = λ g. by_magazines g l (reporting (report_text (image_with a l g)) output) shut} {shut = shut} P (opening_with_log p a n)
    (λ g e. by-magazines {shut = shut} P g l
    (λ q.
    let s = (logged_known _ _ _ _ _ g e).0.opens.law.sizes in
    let h = reporting_known (report_text (image_with a l g)) output k q in
    (omega (arith, h.0, report_text_short (image_with a l g) s, s.few), h.1))
    (λ why q. absurd (no_length why k q)))
    (λ why q. absurd (no_length why k q))
  where
    P : Filling (Result ℕ Refusal) ℕ → Type 0
    P x = x.answer ≡ Ok k → (k ≤ 65535) × (k ≤ length output)

    shut : Refusal → Filling (Result ℕ Refusal) ℕ
    shut why = unfilled (Err why) output

-- G8, S5 (at most 512 buffers): the length that is answered is small
pub report_short : (p : Profile) (a : Areas) (l : List ℕ) (n : ℕ) (output : List ℕ) (k : ℕ) → (report_of p a l n output).answer ≡ Ok k → k ≤ 65535
report_short p a l n output k q = (report_known p a l n output k q).0

-- and all of the text stands in the output
pub report_fits : (p : Profile) (a : Areas) (l : List ℕ) (n : ℕ) (output : List ℕ) (k : ℕ) → (report_of p a l n output).answer ≡ Ok k → k ≤ length output
report_fits p a l n output k q = (report_known p a l n output k q).1
