-- The chunk lies in the heap, whose addresses are words. Assumes nothing.
use native.Mathlib.Omega.{arith}
use Rattle.geometry.proofs.Sheets.{buffer_word}
use Rattle.geometry.proofs.sheet.Sheet.buffer_address.Goals as goal

pub overflow_cast-result : goal.overflow_cast-result
overflow_cast-result c = omega (arith, c.chunk_place.ensures, buffer_word _ c.requires.lawful _ c.requires.i_lt_count, c.requires.lawful.sizes.chunks)

pub overflow_add-result : goal.overflow_add-result
overflow_add-result c = omega (arith, c.chunk_place.ensures, buffer_word _ c.requires.lawful _ c.requires.i_lt_count, c.requires.lawful.sizes.chunks)
