-- The laws of a verdict as numbers. Assumes nothing.
use mathlib.Core.Path.{◌≡◌, refl}
use Prim.Native.Nat.{◌≤◌, ◌<◌}
use lib.Dec.{lit≤}
use Rattle.tags.specs.Verdict.{code_number, told_of, of_told}
use Rattle.tags.specs.declared.size_code.BadCode.{BadCode}
use Rattle.tags.specs.declared.size_code.BadCode.TheVariants.{Remainder, Zero, Above}
use Rattle.tags.specs.declared.verdict.Verdict.{Verdict}
use Rattle.tags.specs.declared.verdict.Verdict.TheVariants.{Free, Whole, Allocated, Cached, NotOneRecord, BadTag, FreedTwice}
use Rattle.tags.specs.declared.verdict.Verdict.TheVariants.{OffChain, OnChain, BadFill, BadRedzone, BadSizeCode, Overrun, BadHeader}

-- however a size code is bad, it is a fault, and its number has two digits
pub code_fault : (how : BadCode) → (20 ≤ code_number how) × (code_number how < 100)
code_fault Remainder = (lit≤ tt, lit≤ tt)
code_fault Zero = (lit≤ tt, lit≤ tt)
code_fault Above = (lit≤ tt, lit≤ tt)

-- the numbers of a verdict tell it
pub told_back : (v : Verdict) → of_told (told_of v) ≡ v
unfolding of_told
told_back Free = refl
told_back Whole = refl
told_back (Allocated s) = refl
told_back Cached = refl
told_back NotOneRecord = refl
told_back BadTag = refl
told_back FreedTwice = refl
told_back OffChain = refl
told_back OnChain = refl
told_back (BadFill o) = refl
told_back (BadRedzone o) = refl
told_back (BadSizeCode Remainder) = refl
told_back (BadSizeCode Zero) = refl
told_back (BadSizeCode Above) = refl
told_back (Overrun o) = refl
told_back BadHeader = refl
