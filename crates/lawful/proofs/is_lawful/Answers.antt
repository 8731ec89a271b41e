-- The sizes are tested first, so that the areas' lengths are small. Assumes nothing.
use mathlib.Core.Path.{sym, ◌∙◌}
use native.Mathlib.Omega.{arith}
use Rattle.geometry.proofs.Sheets.{sizes_known, records-small}
use Rattle.geometry.specs.Limits.{SizesOf}
use Rattle.lawful.proofs.is_lawful.Goals.{Then-sizes_lawful}
use Rattle.lawful.proofs.is_lawful.Goals as goal

-- the sizes hold where they passed their test
sized : (c : Then-sizes_lawful) → SizesOf c.args.g
sized c = sizes_known _ _ _ _ (sym c.sizes_lawful.ensures ∙ c.if-sizes_lawful.true)

pub heap_length-requires : goal.heap_length-requires
heap_length-requires c = sized (goal.at.heap_length-requires c).Then-sizes_lawful

pub records_length-requires : goal.records_length-requires
records_length-requires c = sized (goal.at.records_length-requires c).Then-sizes_lawful

pub bases_lawful-requires : goal.bases_lawful-requires
bases_lawful-requires c =
    let k = sized (goal.at.bases_lawful-requires c).Then-sizes_lawful in
    omega (arith, records-small c.args.g k)
