-- What is taken in an open image lies in its areas. Assumes nothing.
use mathlib.Core.Path.{◌≡◌, sym, ap, ◌∙◌}
use borrow.Author.Tests.{ne_eqb}
use Rattle.std.specs.Prelude.{Ok}
use Rattle.sheet.specs.Areas.{opening}
use Rattle.sheet.specs.Lent.{seen, sheet_open}
use Rattle.allocation.specs.Allocate.{allocate_plan}
use Rattle.allocation.proofs.Takings.{taken_if}
use Rattle.allocation.proofs.allocate.plan.Goals as goal

pub returns-clause-within : goal.returns-clause-within
unfolding allocate_plan
returns-clause-within c =
    let t = taken_if c.args.profile (seen c.args.image.now) c.args.grant c.args.thread in
    let o : opening c.args.profile (seen c.args.image.now) ≡ Ok c.in-Ok.image.sheet
    = sym c.open_image.ensures.sheet ∙ ap sheet_open c.in-Ok.is in
    let a = rw c.in-Ok.is at c.open_image.ensures.areas in
    let u = simp (o, ne_eqb _ _ c.if-thread-eq0.false) at t in
    simp (c.take.ensures, a.0, a.1) u
