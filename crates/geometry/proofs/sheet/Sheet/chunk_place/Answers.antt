-- The chunk lies in the heap, which is small. Assumes nothing.
use native.Mathlib.Omega.{arith}
use Rattle.geometry.proofs.Sheets.{chunk_small}
use Rattle.geometry.proofs.sheet.Sheet.chunk_place.Goals as goal

pub overflow_mul-result : goal.overflow_mul-result
overflow_mul-result c = omega (arith, chunk_small _ c.requires.lawful _ c.requires.i_lt_count)
