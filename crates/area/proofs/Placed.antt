-- What holds of each place that a word may be the address of, and where it is none, holds by the place. Assumes nothing.
use Rattle.std.specs.Prelude.{Option, Some, None}
use mathlib.Core.Path.{◌≡◌, refl}
use Prim.Native.Nat.{ℕ}
use Rattle.area.specs.Place.{by_place}

pub by_place_lem : {A : Type 0} {f : ℕ → A} {x : A} (P : A → Type 0) (p : Option ℕ) → ((i : ℕ) → p ≡ Some i → P (f i)) → P x → P (by_place p f x)
by_place_lem P (Some i) h k = h i refl
by_place_lem P None h k = k
