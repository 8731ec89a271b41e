-- The numbers of a verdict that is neither whole nor allocated tell it. Assumes nothing.
use mathlib.Core.Path.{ap, ◌∙◌}
use native.Mathlib.Omega.{arith}
use borrow.Author.Tests.{ne_eqb}
use Rattle.tags.specs.Verdict.{of_told}
use Rattle.tags.specs.declared.verdict.Told.{Told}
use Rattle.tags.proofs.Verdicts.{told_back}
use Rattle.held.proofs.held_as.Goals as goal

pub returns-in_default : goal.returns-in_default
returns-in_default c v e =
    rw (
      ← ap (λ (t : Told). t.number) e,
      ne_eqb c.args.t.number 1 (λ z. omega arith),
      ne_eqb c.args.t.number 2 (λ z. omega arith),
      c.from.ensures ∙ ap of_told e ∙ told_back v,
    )
