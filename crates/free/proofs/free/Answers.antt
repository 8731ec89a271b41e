-- What is written for a buffer that the plan takes back lies in the areas. Assumes nothing.
use mathlib.Core.Path.{sym, ◌∙◌}
use Rattle.free.proofs.Frees.{free_known}
use Rattle.free.proofs.free.Goals as goal

pub commit-requires : goal.commit-requires
commit-requires c = (free_known _ _ _ _ _ _ (rw c.view.ensures at (sym c.plan.ensures ∙ c.in_ok-held.was))).held.within
