-- Which place of an area an address is. Assumes nothing.
use Rattle.std.specs.Prelude.{◌≡◌, ◌&&◌, cond, List, ℕ, zero, suc, ◌+◌, ◌*◌, eqb, ltb, Option, Some, None}
use Rattle.std.specs.Borrow.{Bor}

-- A1, A2 (the address of buffer i, of record i): that of place i, of places of `stride` bytes from `base` on
abbrev pub place_address : ℕ → ℕ → ℕ → ℕ
place_address base stride i = base + i * stride

-- A7 (whose address a word is): the place, of the first n, whose address is the word w; a place of no bytes has no address of its own
unfoldable pub place_of : ℕ → ℕ → ℕ → ℕ → Option ℕ
place_of base stride zero w = None
place_of base stride (suc i) w = cond (eqb w (place_address base stride i) && ltb 0 stride) (Some i) (place_of base stride i w)

-- L4, K10 (a part of the area it lies in): a part that starts `at` bytes behind the area's own start; a reference is an allocation and an offset in it
abbrev pub PartAt : Bor (List ℕ) → ℕ → Bor (List ℕ) → Type 0
PartAt area at p = (p.ref_ptr.0 ≡ area.ref_ptr.0) × (p.ref_ptr.1 ≡ area.ref_ptr.1 + at)

-- by the place that a word is the address of
abbrev pub by_place : {A : Type 0} → Option ℕ → (ℕ → A) → A → A
by_place (Some i) f none = f i
by_place None f none = none
