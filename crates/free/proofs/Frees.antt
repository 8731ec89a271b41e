-- What is known of a buffer that is freed, by the equation of the plan alone. Assumes nothing.
use Rattle.std.specs.Prelude.{Result, Ok, Err}
use Rattle.tags.specs.declared.refusal.Refusal.{Refusal}
use mathlib.Core.Path.{◌≡◌}
use Prim.Native.Nat.{ℕ}
use native.Mathlib.Omega.{arith}
use Rattle.words.proofs.Tests.{by_test}
use Rattle.tags.specs.declared.format.Profile.{Profile}
use Rattle.chunks.specs.declared.chunk.Grant.{Grant}
use Rattle.sheet.specs.Areas.{Areas, image_of, opening, is_nobody}
use Rattle.sheet.proofs.Opens.{opened_known, by-opened}
use Rattle.held.specs.Held.{held_of}
use Rattle.held.specs.declared.Holding.{Holding}
use Rattle.held.proofs.Holdings.{HeldAt, held_at}
use Rattle.free.specs.Free.{same_grant, free_test, free_plan}

-- a buffer that is freed is one that is held
free_held : (q : Grant) (h : Result Holding Refusal) (p : Holding) → free_test q h ≡ Ok p → h ≡ Ok p
free_held q (Ok h) p e =
    by_test (λ (x : Result Holding Refusal). x ≡ Ok p → ◌≡◌ {A = Result Holding Refusal} (Ok h) (Ok p)) (same_grant h.grant q) (λ t z. z)
    (λ t z. absurd (let n : ◌≡◌ {A = ℕ} 0 1 = cc in omega arith)) e
free_held q (Err why) p e = absurd (let z : ◌≡◌ {A = ℕ} 0 1 = cc in omega arith)

-- and what is written for it lies in the areas of the call
pub free_known : (profile : Profile) (a : Areas) (address : ℕ) (q : Grant) (thread : ℕ) (p : Holding)
    → free_plan profile a address q thread ≡ Ok p
    → HeldAt profile a address p
unfolding free_plan
free_known profile a address q thread p =
    by-opened (λ x. x ≡ Ok p → HeldAt profile a address p) (opening profile a)
    (λ g e. by_test (λ x. x ≡ Ok p → HeldAt profile a address p) (is_nobody thread)
    (λ n z. absurd (let m : ◌≡◌ {A = ℕ} 0 1 = cc in omega arith))
    (λ n z. held_at profile a g address p (opened_known _ _ _ _ g e) (free_held q (held_of (image_of a g) address) p z)))
    (λ why z. absurd (let n : ◌≡◌ {A = ℕ} 0 1 = cc in omega arith))
