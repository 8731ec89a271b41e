-- The laws of a table and of a survey of an open image: what they are where the list is refused, where there is no room, and where there is. Assumes nothing.
use Rattle.std.specs.Prelude.{Result, Ok, Err}
use mathlib.Core.Path.{◌≡◌, ◌∙◌}
use mathlib.Core.Bool.{Bool, true, cond, and-eq-true_iff}
use mathlib.Core.List.{List}
use Prim.Native.Nat.{ℕ, ◌*◌, ◌≤◌, ◌<◌}
use borrow.Author.Tests.{le-leb, lt-leb, leb-true}
use lib.Dec.{leb}
use lib.ListN.{length, take, replicate}
use lib.Seq.{sets, length-take-le}
use Rattle.tags.specs.Filling.{filling, unfilled, if_room}
use Rattle.tags.specs.declared.refusal.Refusal.{Refusal}
use Rattle.tags.specs.declared.refusal.Refusal.TheVariants.{ShortOutput}
use Rattle.tags.specs.declared.format.Profile.{Profile}
use Rattle.sheet.specs.Areas.{Image, opening, opening_with_log}
use Rattle.sheet.specs.Lent.{seen, sheet_open}
use Rattle.sheet.specs.declared.lent.Image.{Image as Lent}
use Rattle.sheet.specs.declared.open_image.OpenImage.{OpenImage}
use Rattle.verdicts.specs.Marked.{image_with_list}
use Rattle.chain.specs.Chain.{chain_of}
use Rattle.chain.specs.Marks.{marked_of}
use Rattle.chain.specs.declared.walk.Walked.{Walked}
use Rattle.chain.proofs.Markings.{marked_passes, marked_refuses}
use Rattle.survey.specs.Table.{table_of, tabulate_in, tabulate_of}
use Rattle.survey.specs.Numbers.{numbering, unnumbered, numbers_of, room_for, survey_numbers_in, survey_numbers_of}

-- the first n bytes of the marks' area
pub part_long : (n : ℕ) → n ≤ 512 → length {A = ℕ} (take n (replicate 512 0)) ≡ n
part_long n h = length-take-le n (replicate 512 0) h

module _ (m : Image) (rows : List ℕ) where
  pub tabulate_refused : (why : Refusal) → marked_of m.sheet m.records m.magazines ≡ Err why → tabulate_in m rows ≡ filling (Err why) rows
  unfolding tabulate_in
  tabulate_refused why e =
      marked_refuses m.sheet m.records m.magazines
      (if_room (m.sheet.count * 3) rows (filling (Ok m.sheet.count) (sets rows 0 (table_of m))) (Err ShortOutput))
      (λ (why : Refusal). unfilled (Err why) rows) why e

  tabulate_passes : (w : Walked) → marked_of m.sheet m.records m.magazines ≡ Ok w
      → tabulate_in m rows ≡ if_room (m.sheet.count * 3) rows (filling (Ok m.sheet.count) (sets rows 0 (table_of m))) (Err ShortOutput)
  unfolding tabulate_in
  tabulate_passes w e = marked_passes m.sheet m.records m.magazines _ (λ (why : Refusal). unfilled (Err why) rows) w e

  pub tabulate_short : (w : Walked) → marked_of m.sheet m.records m.magazines ≡ Ok w → length rows < m.sheet.count * 3
      → tabulate_in m rows ≡ filling (Err ShortOutput) rows
  tabulate_short w e h = tabulate_passes w e ∙ simp (lt-leb (m.sheet.count * 3) (length rows) h)

  pub tabulate_filled : (w : Walked) → marked_of m.sheet m.records m.magazines ≡ Ok w → m.sheet.count * 3 ≤ length rows
      → tabulate_in m rows ≡ filling (Ok m.sheet.count) (sets rows 0 (table_of m))
  tabulate_filled w e h = tabulate_passes w e ∙ simp (le-leb (m.sheet.count * 3) (length rows) h)

  module _ (chain : List ℕ) where
    pub survey_refused : (why : Refusal) → marked_of m.sheet m.records m.magazines ≡ Err why → survey_numbers_in m rows chain ≡ numbering (Err why) rows chain
    unfolding survey_numbers_in
    survey_refused why e = marked_refuses m.sheet m.records m.magazines _ (unnumbered rows chain) why e

    pub survey_passes : (w : Walked) (room : Bool) → marked_of m.sheet m.records m.magazines ≡ Ok w → room_for m.sheet.count (length rows) (length chain) ≡ room
        → survey_numbers_in m rows chain
        ≡ cond room (numbering (Ok m.sheet.count) (sets rows 0 (table_of m)) (sets chain 0 (numbers_of (chain_of m)))) (unnumbered rows chain ShortOutput)
    unfolding survey_numbers_in
    survey_passes w room e r = marked_passes m.sheet m.records m.magazines _ (unnumbered rows chain) w e ∙ simp r

-- two rows that have room
pub room_known : (count rows chain : ℕ) → room_for count rows chain ≡ true → (count * 3 ≤ rows) × (3 ≤ chain)
room_known count rows chain t =
    let both = (and-eq-true_iff (leb (count * 3) rows) (leb 3 chain)).0 t in
    (leb-true (count * 3) rows both.0, leb-true 3 chain both.1)

-- ---- what a call answers, by what its image opens as

module _ (p : Profile) (i : Lent) (r : Result OpenImage Refusal) (l rows : List ℕ) where
  module _ (is : sheet_open r ≡ opening p (seen i)) where
    pub tabulate_shut : (why : Refusal) → r ≡ Err why → tabulate_of p (seen i) l rows ≡ filling (Err why) rows
    unfolding tabulate_of
    tabulate_shut why e = rw (← is, e)

    pub tabulate_opened : (o : OpenImage) → r ≡ Ok o → (o.heap ≡ i.heap) × (o.records ≡ i.records)
        → tabulate_of p (seen i) l rows ≡ tabulate_in (image_with_list o l) rows
    unfolding tabulate_of tabulate_in
    tabulate_opened o e a = rw (← is, e, a.0, a.1)

  module _ (k : ℕ) (chain : List ℕ) (is : sheet_open r ≡ opening_with_log p (seen i) k) where
    pub survey_shut : (why : Refusal) → r ≡ Err why → survey_numbers_of p (seen i) l k rows chain ≡ numbering (Err why) rows chain
    unfolding survey_numbers_of
    survey_shut why e = rw (← is, e)

    pub survey_opened : (o : OpenImage) → r ≡ Ok o → (o.heap ≡ i.heap) × (o.records ≡ i.records)
        → survey_numbers_of p (seen i) l k rows chain ≡ survey_numbers_in (image_with_list o l) rows chain
    unfolding survey_numbers_of survey_numbers_in
    survey_opened o e a = rw (← is, e, a.0, a.1)
