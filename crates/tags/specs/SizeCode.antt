-- The size code. Assumes nothing.
use Rattle.tags.specs.declared.size_code.BadCode.{BadCode}
use Rattle.std.specs.Prelude.{not, cond, ℕ, ◌+◌, ◌*◌, ◌/◌, ◌%◌, eqb, ltb, Result, Ok, Err}
use Rattle.tags.specs.declared.size_code.BadCode.TheVariants.{Remainder, Zero, Above}

-- C7 (the size code of s)
abbrev pub code_of : ℕ → ℕ
code_of s = 251 * s + 1

-- C9 (a word is a size code, or bad in the first of these ways): its remainder by 251 is not 1; its quotient is 0; its quotient is above `most`
unfoldable pub decoded_of : ℕ → ℕ → Result ℕ BadCode
decoded_of code most =
    cond (not (eqb (code % 251) 1)) (Err Remainder)
    (cond (eqb (code / 251) 0) (Err Zero)
    (cond (ltb most (code / 251)) (Err Above) (Ok (code / 251))))
