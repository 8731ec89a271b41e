-- What is written to a whole slice. Assumes nothing.
use mathlib.Core.Path.{◌≡◌, refl, ap, ◌∙◌}
use mathlib.Core.List.{List}
use Prim.Native.Nat.{ℕ, ◌/◌, ◌%◌}
use native.Mathlib.Omega.{arith}
use borrow.Author.Tests.{eq-eqb, ne_eqb}
use lib.ListN.{length}
use lib.Seq.{sets}
use Rattle.words.proofs.Parts.{part_all, sets-whole}
use Rattle.runs.specs.Run.{repeated, difference}
use Rattle.std.specs.Prelude.{Option}
use Rattle.std.specs.Int.{w32, to_be_bytes}
use Rattle.words.specs.Word.{turned, bytes_of}
use Rattle.words.specs.Native.{low_bytes}
use Rattle.words.specs.declared.word.Order.TheVariants.{HighFirst}
use Rattle.words.specs.Word.{part}
use Rattle.runs.proofs.Runs.{length-repeated}
use Rattle.timed.specs.Timed.{place_of, filled}

-- a slice that was filled from its start to its end, and one that was left
pub filled-whole : (l s w : List ℕ) → length l % 8 ≡ 0 → s ≡ sets l 0 (repeated (length l) w) → s ≡ filled l w
unfolding filled
filled-whole l s w h e = rw (e, eq-eqb (length l % 8) 0 h) (sets-whole l (repeated (length l) w) (length-repeated (length l) w))

pub filled_none : (l w : List ℕ) → (length l % 8 ≡ 0 → ⊥) → l ≡ filled l w
unfolding filled
filled_none l w h = rw (ne_eqb (length l % 8) 0 h)

-- a place in a run that is the whole slice
pub whole-place : (l ys : List ℕ) (d : Option ℕ) (r : ℕ) → d ≡ difference (part l 0 (length l)) ys → r ≡ place_of d → r ≡ place_of (difference l ys)
whole-place l ys d r e p = p ∙ ap place_of (e ∙ ap (λ (x : List ℕ). difference x ys) (part_all l (length l) refl))

-- the bytes of a word, the highest first
pub high_bytes : (v : ℕ) → to_be_bytes w32 v ≡ bytes_of HighFirst 4 v
unfolding bytes_of turned low_bytes
high_bytes v =
    let a : v / 256 / 256 ≡ v / 65536 = omega arith in
    let b : v / 256 / 256 / 256 ≡ v / 16777216 = omega arith in
    rw (b, a)
