-- The laws of how a buffer stands: of how often it is listed only none, once and more matter. Assumes nothing.
use mathlib.Core.Path.{◌≡◌, refl}
use mathlib.Core.Bool.{Bool, true, false}
use mathlib.Core.List.{List}
use Prim.Native.Nat.{ℕ, zero, suc}
use native.Mathlib.Omega.{arith}
use borrow.Author.Tests.{ne_eqb, le-leb}
use lib.Dec.{eqb, leb}
use Rattle.tags.specs.declared.format.Format.{Format}
use Rattle.tags.specs.declared.tag.Pattern.{Pattern}
use Rattle.chain.specs.Marks.{to_two}
use Rattle.verdicts.specs.Judge.{standing, is_freed_twice, is_at_rest, chained_verdict}

pub two_listed : (k : ℕ) → leb 2 (suc (suc k)) ≡ true
two_listed k = le-leb 2 (suc (suc k)) (omega arith)

pub some_listed : (k : ℕ) → eqb (suc k) 0 ≡ false
some_listed k = ne_eqb (suc k) 0 (λ e. omega arith)

pub chained_to_two : (f : Format) (c : List ℕ) (p : Pattern) (met again : Bool) (k : ℕ)
    → chained_verdict f c p (standing met again (to_two k)) ≡ chained_verdict f c p (standing met again k)
unfolding chained_verdict is_freed_twice is_at_rest
chained_to_two f c p met again zero = refl
chained_to_two f c p met again (suc zero) = refl
chained_to_two f c p met again (suc (suc k)) = simp (two_listed k, some_listed (suc k))
