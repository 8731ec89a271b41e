-- A6 (the address window: a base address and the lent bytes that stand from there on). Assumes nothing.
use Rattle.std.specs.Prelude.{◌&&◌, cond, List, ℕ, ◌+◌, ◌-◌, leb, length, Option, Some, None}
use Rattle.words.specs.Word.{number_at}
use Rattle.words.specs.declared.word.Order.TheVariants.{HighFirst}

-- A6 (no number partly outside): that of the `width` bytes from the address a on, if all lie in the window, `bytes` from the address `base` on. It is read with
-- the highest byte first, and a caller turns it into the order of its image
unfoldable pub number_in : ℕ → List ℕ → ℕ → ℕ → Option ℕ
number_in width bytes base a =
    cond (leb base a && leb (a - base + width) (length bytes)) (Some (number_at HighFirst width bytes (a - base))) None

-- W2 (a word has four bytes)
abbrev pub word_in : List ℕ → ℕ → ℕ → Option ℕ
word_in bytes base a = number_in 4 bytes base a

-- and a byte is one
abbrev pub byte_in : List ℕ → ℕ → ℕ → Option ℕ
byte_in bytes base a = number_in 1 bytes base a
