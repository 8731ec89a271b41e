-- Parts of a list of bytes, and numbers in bytes, in either order. Assumes nothing.
use Rattle.std.specs.Prelude.{ℕ, zero, suc, Bool, cond, List, [], ◌++◌, reverse, take, drop}
use Rattle.words.specs.Native.{low_number, low_bytes}
use Rattle.words.specs.declared.word.Order.{Order}
use Rattle.words.specs.declared.word.Order.TheVariants.{HighFirst, LowFirst}

-- the `len` bytes of `l` from `at` on
unfoldable pub part : List ℕ → ℕ → ℕ → List ℕ
part l at len = take len (drop at l)

-- f 0, f 1, .. , f (n - 1), one after the other
unfoldable pub flat : ℕ → (ℕ → List ℕ) → List ℕ
flat zero f = []
flat (suc n) f = flat n f ++ f n

-- W1 (the order of a number's bytes, by whether the lowest comes first)
abbrev pub order_if : Bool → Order
order_if low = cond low LowFirst HighFirst

-- W1 (the order of a number's bytes): `turned`, and nothing else, says which byte of a number comes first. It makes bytes in an order of bytes with the
-- lowest first, and these of those.
unfoldable pub turned : Order → List ℕ → List ℕ
turned HighFirst bs = reverse bs
turned LowFirst bs = bs

-- W1 (the number of some bytes in an order)
unfoldable pub number : Order → List ℕ → ℕ
number o bs = low_number (turned o bs)

-- W1 (the lowest k bytes of a number in an order)
unfoldable pub bytes_of : Order → ℕ → ℕ → List ℕ
bytes_of o k v = turned o (low_bytes k v)

-- the number of the k bytes of `l` from `at` on
unfoldable pub number_at : Order → ℕ → List ℕ → ℕ → ℕ
number_at o k l at = number o (part l at k)
