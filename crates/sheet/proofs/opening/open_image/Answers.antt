-- The areas are as long as the sheet's numbers say, once they are open. Assumes nothing.
use mathlib.Core.Path.{sym, ◌∙◌}
use Rattle.sheet.proofs.Opens.{opened_known}
use Rattle.sheet.proofs.opening.open_image.Goals as goal

pub invariant_of-result : goal.invariant_of-result
invariant_of-result c =
    let k = opened_known _ _ _ _ _ (sym c.open.ensures ∙ c.in_ok-sheet.was) in
    record { law = k.law; heap_long = k.opens.heap_long; records_long = k.opens.records_long }
