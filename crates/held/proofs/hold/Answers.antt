-- The address is a buffer's. Assumes nothing.
use mathlib.Core.Path.{sym, ◌∙◌}
use Rattle.area.proofs.Places.{place_found}
use Rattle.held.proofs.hold.Goals as goal

pub held_chunk-requires : goal.held_chunk-requires
held_chunk-requires c = (place_found _ _ _ _ _ (sym c.find_buffer.ensures ∙ c.in-Some.is)).0
