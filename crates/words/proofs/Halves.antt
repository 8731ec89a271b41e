-- A number of two parts: what loading, storing and swapping both come to, one law each over the two widths. Assumes nothing.
use Rattle.std.proofs.Common.{◌≡◌, ℕ, ◌+◌, ◌/◌, ◌%◌, ◌^◌, List, ◌++◌, reverse, sym, refl, ap, ◌∙◌}
use mathlib.Core.List.{reverse-append}
use lib.Seq.{sets}
use Rattle.words.specs.Word.{part, turned, bytes_of}
use Rattle.words.specs.Native.{low_bytes}
use Rattle.words.specs.declared.word.Order.TheVariants.{HighFirst}
use Rattle.words.proofs.Parts.{part_two, sets_then}
use Rattle.words.proofs.Loads.{length_low, low_halves}

pub loaded : (j k : ℕ) (l : List ℕ) (at x y r : ℕ) → low_bytes j x ≡ part l at j → low_bytes k y ≡ part l (at + j) k
    → low_bytes (j + k) r ≡ low_bytes j x ++ low_bytes k y → low_bytes (j + k) r ≡ part l at (j + k)
loaded j k l at x y r ex ey er = er ∙ rw (ex, ey) (part_two l at j k)

pub stored : (j k : ℕ) (l a b : List ℕ) (at v : ℕ) → a ≡ sets l at (low_bytes j (v % 256 ^ j)) → b ≡ sets a (at + j) (low_bytes k (v / 256 ^ j))
    → b ≡ sets l at (low_bytes (j + k) v)
stored j k l a b at v ea eb =
    rw (eb, ea, ← low_halves j k v)
    (sets_then l at j (at + j) (low_bytes j (v % 256 ^ j)) (low_bytes k (v / 256 ^ j)) (length_low j (v % 256 ^ j)) refl)

pub swapped : (j k v x y r : ℕ) → low_bytes k y ≡ bytes_of HighFirst k (v / 256 ^ j) → low_bytes j x ≡ bytes_of HighFirst j (v % 256 ^ j)
    → low_bytes (k + j) r ≡ low_bytes k y ++ low_bytes j x → low_bytes (k + j) r ≡ bytes_of HighFirst (j + k) v
unfolding bytes_of turned
swapped j k v x y r ey ex er =
    er ∙ rw (ey, ex) (sym (ap reverse (sym (low_halves j k v)) ∙ reverse-append (low_bytes j (v % 256 ^ j)) (low_bytes k (v / 256 ^ j))))
