-- What holds of either end of a test holds of what the test picks, and what is made of that is made of either. Assumes nothing.
use Rattle.std.proofs.Common.{◌≡◌, Bool, true, false, cond, refl}

pub by_test : {A : Type 0} {x y : A} (P : A → Type 0) (t : Bool) → (t ≡ true → P x) → (t ≡ false → P y) → P (cond t x y)
by_test P true h k = h refl
by_test P false h k = k refl

pub map_test : {A B : Type 0} (h : A → B) (t : Bool) (x y : A) → h (cond t x y) ≡ cond t (h x) (h y)
map_test h true x y = refl
map_test h false x y = refl
