-- What lies whole in a window is read, and nothing else is, at any width. Assumes nothing.
use Rattle.std.specs.Prelude.{Option, Some, None, slice_range}
use mathlib.Core.Path.{◌≡◌}
use mathlib.Core.List.{List}
use Prim.Native.Nat.{ℕ, ◌+◌, ◌-◌, ◌≤◌, ◌<◌}
use native.Mathlib.Omega.{arith}
use borrow.Author.Tests.{le-leb, lt-leb}
use lib.ListN.{length, get_or}
use Rattle.words.specs.Word.{number, number_at, turned}
use Rattle.words.specs.Native.{low_number}
use Rattle.words.proofs.Parts.{part-lent, part-part, part_cons, part_none}
use Rattle.words.specs.declared.word.Order.TheVariants.{HighFirst}
use Rattle.window.specs.Window.{number_in}

-- the number of some bytes that are lent is that at their place, and a byte is its own number
pub number_lent : (width : ℕ) (bytes : List ℕ) (at : ℕ) → number_at HighFirst width (slice_range bytes at (at + width)) 0 ≡ number_at HighFirst width bytes at
unfolding number_at
number_lent width bytes at = let e : at + 0 ≡ at = omega arith in rw (part-lent bytes at width, part-part bytes at width 0 width (omega arith), e)

pub byte_number : (bytes : List ℕ) (at : ℕ) → at < length bytes → number_at HighFirst 1 bytes at ≡ get_or bytes at 0
unfolding number_at number turned low_number
byte_number bytes at h = rw (part_cons bytes at 0 h, part_none bytes (at + 1)) (omega arith)

module _ (width : ℕ) (bytes : List ℕ) (base a : ℕ) where
  pub number_inside : base ≤ a → a + width ≤ base + length bytes → number_in width bytes base a ≡ Some (number_at HighFirst width bytes (a - base))
  unfolding number_in
  number_inside h k = rw (le-leb base a h, le-leb (a - base + width) (length bytes) (omega arith))

  -- a number inside that was read is the one there, and one was read
  module _ (w : Option ℕ) (h : base ≤ a) (k : a + width ≤ base + length bytes) (e : w ≡ number_in width bytes base a) where
    pub number-told : (v : ℕ) → w ≡ Some v → v ≡ number_at HighFirst width bytes (a - base)
    number-told v f = let i = number_inside h k in cc

    pub number-none : w ≡ None → ⊥
    number-none f = let i = number_inside h k in let z : ◌≡◌ {A = ℕ} 0 1 = cc in omega arith

  pub number_below : a < base → number_in width bytes base a ≡ None
  unfolding number_in
  number_below h = rw (lt-leb base a h)

  pub number_past : base ≤ a → base + length bytes < a + width → number_in width bytes base a ≡ None
  unfolding number_in
  number_past h k = rw (le-leb base a h, lt-leb (a - base + width) (length bytes) (omega arith))

-- what the methods of a window go by
pub ruleset readings = (number_lent, byte_number, number_inside, number_below, number_past)
