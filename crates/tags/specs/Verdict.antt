-- The number and the value of each verdict. Assumes nothing.
use Rattle.std.specs.Prelude.{Bool, ◌||◌, cond, ℕ, eqb, leb}
use Rattle.tags.specs.declared.size_code.BadCode.{BadCode}
use Rattle.tags.specs.declared.size_code.BadCode.TheVariants.{Remainder, Zero, Above}
use Rattle.tags.specs.declared.verdict.Told.{Told}
use Rattle.tags.specs.declared.verdict.Verdict.{Verdict}
use Rattle.tags.specs.declared.verdict.Verdict.TheVariants.{Free, Whole, Allocated, Cached, NotOneRecord, BadTag, FreedTwice}
use Rattle.tags.specs.declared.verdict.Verdict.TheVariants.{OffChain, OnChain, BadFill, BadRedzone, BadSizeCode, Overrun, BadHeader}

-- V27 wrong remainder, V31 size zero, V32 above the buffer size: what is bad in a size code
abbrev pub code_number : BadCode → ℕ
code_number Remainder = 27
code_number Zero = 31
code_number Above = 32

-- V0 free, V1 whole, V2 allocated s, V3 cached, and the faults V20 to V28 and V30 to V32: the rule's number is the verdict's
abbrev pub verdict_number : Verdict → ℕ
verdict_number Free = 0
verdict_number Whole = 1
verdict_number (Allocated s) = 2
verdict_number Cached = 3
verdict_number NotOneRecord = 20
verdict_number BadTag = 21
verdict_number FreedTwice = 22
verdict_number OffChain = 23
verdict_number OnChain = 24
verdict_number (BadFill o) = 25
verdict_number (BadRedzone o) = 26
verdict_number (BadSizeCode how) = code_number how
verdict_number (Overrun o) = 28
verdict_number BadHeader = 30

-- J8 (the value): the size of 2, the offset of 25, 26 and 28; any other verdict has none, which is told as 0
abbrev pub verdict_value : Verdict → ℕ
verdict_value Free = 0
verdict_value Whole = 0
verdict_value (Allocated s) = s
verdict_value Cached = 0
verdict_value NotOneRecord = 0
verdict_value BadTag = 0
verdict_value FreedTwice = 0
verdict_value OffChain = 0
verdict_value OnChain = 0
verdict_value (BadFill o) = o
verdict_value (BadRedzone o) = o
verdict_value (BadSizeCode how) = 0
verdict_value (Overrun o) = o
verdict_value BadHeader = 0

-- J8 (a verdict as numbers): its number and its value
abbrev pub told_of : Verdict → Told
told_of v = record { number = verdict_number v; value = verdict_value v }

-- J8 read back (the verdict that a number and a value tell): that of the number, with the value where it has one; any other number is read as 30
unfoldable pub of_told : Told → Verdict
of_told t =
    cond (eqb t.number 0) Free
    (cond (eqb t.number 1) Whole
    (cond (eqb t.number 2) (Allocated t.value)
    (cond (eqb t.number 3) Cached
    (cond (eqb t.number 20) NotOneRecord
    (cond (eqb t.number 21) BadTag
    (cond (eqb t.number 22) FreedTwice
    (cond (eqb t.number 23) OffChain
    (cond (eqb t.number 24) OnChain
    (cond (eqb t.number 25) (BadFill t.value)
    (cond (eqb t.number 26) (BadRedzone t.value)
    (cond (eqb t.number 27) (BadSizeCode Remainder)
    (cond (eqb t.number 28) (Overrun t.value)
    (cond (eqb t.number 31) (BadSizeCode Zero)
    (cond (eqb t.number 32) (BadSizeCode Above) BadHeader))))))))))))))

-- ---- what a verdict says, by its number

-- J9 (a fault is a verdict of 20 or more)
abbrev pub is_fault : ℕ → Bool
is_fault number = leb 20 number

-- J9 (found free is 0)
abbrev pub is_found_free : ℕ → Bool
is_found_free number = eqb number 0

-- J9 (found allocated is 1 or 2)
abbrev pub is_found_allocated : ℕ → Bool
is_found_allocated number = eqb number 1 || eqb number 2
