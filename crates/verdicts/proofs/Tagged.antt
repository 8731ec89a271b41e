-- The laws of the verdict by the tag: where one record alone names a buffer, it is the record at T0, or the tag is bad. Assumes nothing.
use Rattle.std.specs.Prelude.{Option, Some, None}
use mathlib.Core.Path.{◌≡◌, ap, ◌∙◌}
use mathlib.Core.Logic.{◌≢◌}
use Prim.Native.Nat.{ℕ, ◌<◌}
use borrow.Author.Tests.{eq-eqb, ne_eqb}
use Rattle.area.specs.Record.{address_word}
use Rattle.chunks.specs.Chunk.{tag_at}
use Rattle.tags.specs.Tag.{pattern_of}
use Rattle.tags.specs.declared.tag.Tag.{Tag}
use Rattle.tags.specs.declared.verdict.Verdict.{Verdict}
use Rattle.tags.specs.declared.verdict.Verdict.TheVariants.{NotOneRecord, BadTag}
use Rattle.geometry.specs.Sheet.{buffer_address, record_address}
use Rattle.sheet.specs.Areas.{Image, chunk_at}
use Rattle.chain.specs.Pairing.{own_of, by_own}
use Rattle.chain.specs.Marks.{names_after}
use Rattle.chain.proofs.Owns.{own-none, own-some, own_one}
use Rattle.verdicts.specs.Judge.{standing_of, chained_verdict, owned_verdict, verdict_of}

module _ (m : Image) (i : ℕ) where
  abbrev Names : ℕ
  Names = names_after m.sheet m.records m.sheet.count i

  -- the buffer's tag
  abbrev tag : Tag
  tag = tag_at m.sheet.format (chunk_at m i)

  abbrev of_own : Option ℕ → Verdict
  of_own o = by_own o (λ j. owned_verdict m.sheet.format (chunk_at m i) (record_address m.sheet j) (standing_of m i j)) NotOneRecord

  verdict_by : (o : Option ℕ) → own_of m i ≡ o → verdict_of m i ≡ of_own o
  unfolding verdict_of
  verdict_by o e = ap of_own e

  pub verdict_none : Names ≢ 1 → verdict_of m i ≡ NotOneRecord
  verdict_none d = verdict_by None (own-none m.sheet m.records i d)

  -- T0 is no record's address, or that of a record that does not name the buffer
  pub verdict_other : Names ≡ 1
      → ((j : ℕ) → j < m.sheet.count → address_word m.sheet.format m.records j ≡ buffer_address m.sheet i → tag.t0 ≢ record_address m.sheet j)
      → verdict_of m i ≡ BadTag
  unfolding owned_verdict
  verdict_other c d =
      let s = own-some m.sheet m.records i c in
      verdict_by (Some s.0) s.1.0
      ∙ simp (ne_eqb tag.t0 (record_address m.sheet s.0) (d s.0 s.1.1.0 s.1.1.1))

  -- T0 is the address of a record that names the buffer
  pub verdict_one : (j : ℕ) → Names ≡ 1 → j < m.sheet.count → address_word m.sheet.format m.records j ≡ buffer_address m.sheet i
      → tag.t0 ≡ record_address m.sheet j
      → verdict_of m i ≡ chained_verdict m.sheet.format (chunk_at m i) (pattern_of tag) (standing_of m i j)
  unfolding owned_verdict
  verdict_one j c l w e =
      verdict_by (Some j) (own_one m.sheet m.records i j c l w) ∙ simp (eq-eqb tag.t0 (record_address m.sheet j) e)
