-- Lay out. Assumes nothing.
use Rattle.tags.specs.declared.refusal.Refusal.{Refusal}
use Rattle.std.specs.Prelude.{cond, ◌≡◌, List, ℕ, suc, eqb, ltb, length, Result, Err}
use Rattle.words.specs.Word.{flat}
use Rattle.chunks.specs.Chunk.{free_chunk}
use Rattle.area.specs.Record.{record_bytes}
use Rattle.sheet.specs.Areas.{Areas, areas, Outcome, outcome, refused_with}
use Rattle.sheet.specs.Fields.{sheet_length, sheet_bytes}
use Rattle.geometry.specs.Sheet.{laid_sheet, buffer_address, record_address}
use Rattle.sheet.specs.Opening.{numbered, by_opened, Open}
use Rattle.geometry.specs.declared.sheet.Sheet.{Sheet}
use Rattle.tags.specs.declared.format.Format.{Format}
use Rattle.tags.specs.declared.refusal.Refusal.TheVariants.{BadSheet}
use Rattle.tags.specs.Refusal.{done}

-- K3 (the chunk of buffer i): that of a free buffer, whose record is record i
abbrev pub laid_chunk : Sheet → ℕ → List ℕ
laid_chunk g i = free_chunk g.format g.size (record_address g i)

-- K4 (the next words): the word that leads to record i, its address, or 0 past the last
unfoldable pub link_to : Sheet → ℕ → ℕ
link_to g i = cond (ltb i g.count) (record_address g i) 0

-- K4 (the bytes of record i): it leads to record i + 1, and names buffer i
abbrev pub laid_record : Sheet → ℕ → List ℕ
laid_record g i = record_bytes g.format (link_to g (suc i)) (buffer_address g i) g.cache

-- K2 (the sheet), K3 (the heap), K4 (the records): the areas of an image that is laid out
unfoldable pub laid_areas : Sheet → Areas
laid_areas g = areas (sheet_bytes g) (flat g.count (laid_chunk g)) (flat g.count (laid_record g))

-- E4 (X1 by the sheet area's length alone, X2 on the arguments, X3): the sheet's numbers where they pass
unfoldable pub lay_out_plan : Sheet → ℕ → ℕ → ℕ → Result Sheet Refusal
lay_out_plan g s h r = cond (eqb s sheet_length) (numbered g h r) (Err BadSheet)

-- K2 to K4, E1, E4 (lay out)
unfoldable pub lay_out_of : Areas → Format → ℕ → ℕ → ℕ → ℕ → ℕ → Outcome (Result ℕ Refusal)
lay_out_of a f cache heap records size n =
    by_opened (lay_out_plan (laid_sheet f cache heap records size n) (length a.sheet) (length a.heap) (length a.records))
    (λ g. outcome done (laid_areas g))
    (λ why. refused_with (Err why) a)

-- what a plan promises to who carries it out, in areas of s, h and r bytes
pub record Planned (s h r : ℕ) (g : Sheet) : Type 0 where
  pub long : s ≡ sheet_length
  pub opens : Open h r g
