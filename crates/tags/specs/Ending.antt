-- The number and the value of each ending of a chain. Assumes nothing.
use Rattle.std.specs.Prelude.{ℕ}
use Rattle.tags.specs.declared.ending.Ending.{Ending}
use Rattle.tags.specs.declared.ending.Ending.TheVariants.{End, Broken, Again}

-- K14 (how it ends)
abbrev pub ending_number : Ending → ℕ
ending_number End = 0
ending_number Broken = 1
ending_number (Again i) = 2

-- K14 (the record that it came back to, else 0)
abbrev pub ending_value : Ending → ℕ
ending_value End = 0
ending_value Broken = 0
ending_value (Again i) = i
