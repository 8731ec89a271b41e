-- The tag of a chunk. Assumes nothing.
use Rattle.std.specs.Prelude.{Bool, true, false, cond, ℕ, eqb}
use Rattle.std.specs.Int.Bits.{bit_xor}
use Rattle.tags.specs.declared.tag.Tag.{Tag}
use Rattle.tags.specs.declared.tag.State.{State}
use Rattle.tags.specs.declared.tag.State.TheVariants as state
use Rattle.tags.specs.declared.tag.Pattern.{Pattern}
use Rattle.tags.specs.declared.tag.Pattern.TheVariants as pattern

-- C2 (the two patterns)
abbrev pub allocated_pattern : ℕ
allocated_pattern = 0xa110c8ed

abbrev pub free_pattern : ℕ
free_pattern = 0xf4eef4ee

-- C2 (the pattern of a state)
abbrev pub state_word : State → ℕ
state_word state.Free = free_pattern
state_word state.Allocated = allocated_pattern

-- C2 (the tag): T0 is the record's address; T1 makes T0 xor T1 the state's pattern
unfoldable pub tag_of : ℕ → State → Tag
tag_of a s = record { t0 = a; t1 = bit_xor a (state_word s) }

-- C3 (the pattern that a word is)
unfoldable pub pattern_word : ℕ → Pattern
pattern_word x = cond (eqb x free_pattern) pattern.Free (cond (eqb x allocated_pattern) pattern.Allocated pattern.Neither)

-- C3 (the pattern of T0 xor T1)
unfoldable pub pattern_of : Tag → Pattern
pattern_of t = pattern_word (bit_xor t.t0 t.t1)

abbrev pub is_free : Pattern → Bool
is_free pattern.Free = true
is_free pattern.Allocated = false
is_free pattern.Neither = false

abbrev pub is_allocated : Pattern → Bool
is_allocated pattern.Free = false
is_allocated pattern.Allocated = true
is_allocated pattern.Neither = false

abbrev pub is_neither : Pattern → Bool
is_neither pattern.Free = false
is_neither pattern.Allocated = false
is_neither pattern.Neither = true
