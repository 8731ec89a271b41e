-- The index of none is no record's. Assumes nothing.
use mathlib.Core.Path.{◌≡◌, refl, ap, ◌∙◌}
use mathlib.Core.Bool.{false}
use Prim.Native.Nat.{ℕ, ◌<◌}
use native.Mathlib.Omega.{arith}
use borrow.Author.Tests.{ne_eqb}
use lib.Dec.{eqb}
use Rattle.geometry.specs.Limits.{count_most}
use Rattle.tags.specs.declared.ending.Ending.{Ending}
use Rattle.tags.specs.declared.ending.Ending.TheVariants.{End, Broken, Again}
use Rattle.verdicts.specs.Judge.{again_at, again_index}
use Rattle.verdicts.proofs.judge.again_at.Goals as goal

none : (j : ℕ) → j < count_most → eqb count_most j ≡ false
none j h = ne_eqb count_most j (λ e. omega arith)

by_index : (e : Ending) (j : ℕ) → j < count_most → eqb (again_index e) j ≡ again_at e j
by_index End j h = none j h
by_index Broken j h = none j h
by_index (Again i) j h = refl

pub returns : goal.returns
returns c =
    ap (λ (x : ℕ). eqb x c.args.j) c.again_index.ensures ∙ by_index c.args.ending c.args.j c.requires
