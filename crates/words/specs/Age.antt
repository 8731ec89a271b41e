-- The age of a stamp. Assumes nothing.
use Rattle.std.specs.Prelude.{ℕ, ◌+◌, ◌-◌, ◌%◌, ◌^◌}

-- W4 (age, modulo 2^32), for stamps of `bits` bits: `2 ^ bits` is added first, since a difference of numbers is never below 0.
unfoldable pub age_of : ℕ → ℕ → ℕ → ℕ
age_of bits time stamp = (time + (2 ^ bits - stamp)) % 2 ^ bits
