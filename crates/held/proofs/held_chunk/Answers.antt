-- The sheet is lawful, and T0 is a record's address. Assumes nothing.
use mathlib.Core.Path.{sym, ◌∙◌}
use Rattle.area.proofs.Places.{place_found}
use Rattle.geometry.proofs.Sheets.{lawful_known}
use Rattle.held.proofs.held_chunk.Goals as goal

pub chunk-chunk-requires-clause-lawful : goal.chunk-chunk-requires-clause-lawful
chunk-chunk-requires-clause-lawful c = lawful_known _ c.args.image.now.law

pub buffer-requires-clause-j_lt_count : goal.buffer-requires-clause-j_lt_count
buffer-requires-clause-j_lt_count c = (place_found _ _ _ _ _ (sym c.find_record.ensures ∙ c.in-Some.is)).0
