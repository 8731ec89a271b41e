-- What is known of an image that is open and marked: its sheet is lawful, and its marks tell of its records and buffers. Assumes nothing.
use Rattle.std.specs.Prelude.{Option, Some, None}
use mathlib.Core.Path.{◌≡◌, sym, ap, subst, ◌∙◌}
use mathlib.Core.Logic.{◌≢◌}
use mathlib.Core.Bool.{Bool}
use mathlib.Core.List.{List}
use Prim.Native.Nat.{ℕ, ◌<◌}
use native.Mathlib.Omega.{arith}
use lib.ListN.{length, get_or}
use Rattle.words.proofs.Parts.{length_part}
use Rattle.tags.specs.Tag.{pattern_of}
use Rattle.tags.specs.declared.tag.Tag.{Tag}
use Rattle.tags.specs.declared.ending.Ending.{Ending}
use Rattle.tags.specs.declared.verdict.Verdict.TheVariants.{NotOneRecord, BadTag}
use Rattle.chunks.specs.Chunk.{ChunkLength, tag_at}
use Rattle.area.specs.Record.{record_size, address_word}
use Rattle.area.proofs.Records.{record_least}
use Rattle.area.proofs.Places.{place_found, place_missed, address_one}
use Rattle.geometry.specs.Limits.{Lawful}
use Rattle.geometry.specs.Sheet.{chunk_place, buffer_address, record_address, record_of}
use Rattle.geometry.specs.declared.sheet.Sheet.{Sheet}
use Rattle.geometry.proofs.Sheets.{lawful_known, chunk_inside, chunk_length}
use Rattle.sheet.specs.Areas.{Image, chunk_at}
use Rattle.chain.specs.Magazines.{listed_in}
use Rattle.chain.specs.Marks.{names_after, digits_of}
use Rattle.chain.specs.declared.marks.Digits.{Digits}
use Rattle.chain.proofs.Counts.{length_marks, marks_names, marks_met, marks_listed}
use Rattle.verdicts.specs.Judge.{chained_verdict, standing, again_at, verdict_of}
use Rattle.verdicts.specs.Marked.{image_marked}
use Rattle.verdicts.specs.declared.marked.MarkedImage.{MarkedImage}
use Rattle.verdicts.proofs.Standings.{chained_to_two}
use Rattle.verdicts.proofs.Tagged.{verdict_none, verdict_other, verdict_one}

-- the record at the address t0
pub found : (g : Sheet) (t0 j : ℕ) {p : Option ℕ} → p ≡ record_of g t0 → p ≡ Some j → (j < g.count) × (t0 ≡ record_address g j)
found g t0 j e is = place_found g.record_base (record_size g.format.profile) g.count t0 j (sym e ∙ is)

module _ (m : MarkedImage) where
  abbrev g : Sheet
  g = m.image.sheet

  abbrev records : List ℕ
  records = m.image.records.now

  abbrev pub judged : Image
  judged = image_marked m

  pub law : Lawful g
  law = lawful_known g m.image.law

  pub long : length m.marks.now ≡ g.count
  long = length_marks g records m.magazines.now m.marks.now m.marked

  module _ (i : ℕ) (h : i < g.count) where
    pub chunk_lawful : {chunk : List ℕ} → chunk ≡ chunk_at judged i → ChunkLength (length chunk)
    chunk_lawful e =
        let k = chunk_inside g law i h in
        rw e (subst ChunkLength (sym (length_part m.image.heap.now (chunk_place g i) g.chunk (omega (arith, m.image.heap_long)))) (chunk_length g law))

    -- how many records name the buffer, as its digit says
    names : {d : Digits} → d ≡ digits_of (get_or m.marks.now i 0) → d.names ≡ names_after g records g.count i
    names e = ap (λ (d : Digits). d.names) e ∙ marks_names g records m.magazines.now m.marks.now m.marked i h

    pub judged_none : {d : Digits} → d ≡ digits_of (get_or m.marks.now i 0) → d.names ≢ 1 → verdict_of judged i ≡ NotOneRecord
    judged_none e d = verdict_none judged i (λ z. d (names e ∙ z))

    -- where one record alone names the buffer, whose tag is t
    module _ {d : Digits} (e : d ≡ digits_of (get_or m.marks.now i 0)) (one : d.names ≡ 1)
        {chunk : List ℕ} (at : chunk ≡ chunk_at judged i) {t : Tag} (tag : t ≡ tag_at g.format chunk) where
      t_is : t ≡ tag_at g.format (chunk_at judged i)
      t_is = tag ∙ ap (tag_at g.format) at

      -- T0 is no record's address
      pub judged_stray : {p : Option ℕ} → p ≡ record_of g t.t0 → p ≡ None → verdict_of judged i ≡ BadTag
      judged_stray p is =
          verdict_other judged i (sym (names e) ∙ one)
          (λ j l w z. place_missed g.record_base (record_size g.format.profile) g.count t.t0 (omega (arith, record_least g.format.profile))
          (sym p ∙ is) j l (ap (λ (t : Tag). t.t0) t_is ∙ z))

      -- T0 is the address of record j
      module _ {p : Option ℕ} (j : ℕ) (named : p ≡ record_of g t.t0) (is : p ≡ Some j) where
        at_j : (j < g.count) × (t.t0 ≡ record_address g j)
        at_j = found g t.t0 j named is

        t0_is : (tag_at g.format (chunk_at judged i)).t0 ≡ record_address g j
        t0_is = sym (ap (λ (t : Tag). t.t0) t_is) ∙ at_j.1

        -- which names another buffer
        pub judged_other : address_word g.format records j ≢ buffer_address g i → verdict_of judged i ≡ BadTag
        judged_other differs =
            verdict_other judged i (sym (names e) ∙ one)
            (λ k l w z.
            let same = address_one g.record_base (record_size g.format.profile) j k (omega (arith, record_least g.format.profile)) (sym t0_is ∙ z) in
            differs (ap (address_word g.format records) same ∙ w))

        -- which names this one
        pub judged_named : {met : Digits} {again : Bool} → address_word g.format records j ≡ buffer_address g i
            → met ≡ digits_of (get_or m.marks.now j 0) → again ≡ again_at m.ending j
            → chained_verdict g.format chunk (pattern_of t) (standing met.met again d.listed) ≡ verdict_of judged i
        judged_named {met} {again} w f a =
            let is_met = ap (λ (d : Digits). d.met) f ∙ marks_met g records m.magazines.now m.marks.now m.marked j at_j.0 in
            let is_again = a ∙ ap (λ (e : Ending). again_at e j) m.ends in
            let listed = ap (λ (d : Digits). d.listed) e ∙ marks_listed g records m.magazines.now m.marks.now m.marked i h in
            (λ x. chained_verdict g.format (at x) (pattern_of (t_is x)) (standing (is_met x) (is_again x) (listed x)))
            ∙ chained_to_two g.format _ _ _ _ (listed_in g m.magazines.now i)
            ∙ sym (verdict_one judged i j (sym (names e) ∙ one) at_j.0 w t0_is)
