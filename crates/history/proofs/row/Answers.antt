-- The part is cut at its place. Assumes nothing.
use mathlib.Core.Path.{refl}
use native.Mathlib.Omega.{arith}
use Rattle.words.proofs.Parts.{part-lent}
use Rattle.history.specs.Log.{row_size}
use Rattle.history.proofs.row.Goals as goal

pub returns : goal.returns
returns c = record { bytes = part-lent _ _ row_size; place = (refl, omega arith) }
