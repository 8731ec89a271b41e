-- What is known of the client's bytes that are stored or shown, by the equation of the plan or of the answer alone. Assumes nothing.
use Rattle.std.specs.Prelude.{Result, Ok, Err}
use Rattle.tags.specs.declared.refusal.Refusal.{Refusal}
use mathlib.Core.Path.{◌≡◌, refl, sym, subst}
use Prim.Native.Nat.{ℕ, ◌+◌, ◌≤◌}
use native.Mathlib.Omega.{arith}
use borrow.Author.Tests.{leb-true}
use lib.Dec.{leb}
use lib.ListN.{length}
use Rattle.words.proofs.Tests.{by_test}
use Rattle.tags.specs.declared.format.Profile.{Profile}
use Rattle.chunks.specs.Chunk.{client_offset}
use Rattle.chunks.specs.declared.chunk.Grant.{Grant}
use Rattle.chunks.specs.declared.chunk.Grant.TheVariants as grant
use Rattle.chunks.proofs.Headers.{header_short}
use Rattle.chunks.proofs.Chunks.{grant-within}
use Rattle.sheet.specs.Areas.{Areas, image_of, opening}
use Rattle.sheet.specs.Fields.{sheet_of}
use Rattle.sheet.specs.Lent.{image_open}
use Rattle.sheet.specs.Opening.{Open}
use Rattle.sheet.specs.declared.open_image.OpenImage.{OpenImage}
use Rattle.geometry.specs.declared.sheet.Sheet.{Sheet}
use Rattle.sheet.proofs.Opens.{open_known, opened_known, by-opened}
use Rattle.geometry.proofs.Sheets.{lawful_known, chunk_inside, chunk_small}
use Rattle.held.specs.Held.{held_of, HeldWithin}
use Rattle.held.specs.declared.Holding.{Holding}
use Rattle.held.proofs.Holdings.{HeldIn, held_known, HeldAt, OpenAreas, held_at}
use Rattle.places.specs.Spot.{chunk_start}
use Rattle.client.specs.Bounds.{client_start, client_at, client_size}
use Rattle.client.specs.Store.{store_test, store_plan}
use Rattle.client.specs.Show.{shown, show_result, shown_of, StartsAt}
use Rattle.client.specs.declared.show.Shown.{Shown}

-- ---- where they are

-- the client's bytes start near the buffer's start
pub start_near : (p : Holding) → client_start p ≤ 8
start_near p = go p.grant
  where
    go : (q : Grant) → client_offset p.spot.sheet.format.profile q ≤ 8
    go grant.Whole = omega arith
    go (grant.Sized q) = header_short p.spot.sheet.format.profile

-- the client's bytes lie in the heap, and are few
pub record Client (h : ℕ) (p : Holding) : Type 0 where
  pub inside : client_at p + client_size p ≤ h
  pub few : client_size p ≤ 4096
  pub small : client_at p ≤ 65536

pub client_inside : (s h r : ℕ) (p : Holding) → HeldWithin s h r p → Client h p
client_inside s h r p k =
    let g = p.spot.sheet in
    let w = grant-within g.format.profile g.size p.grant k.granted in
    let z = k.within.opened.law.sizes in
    let i = chunk_inside g k.within.opened.law p.spot.buffer k.within.buffer in
    let l = chunk_small g k.within.opened.law p.spot.buffer k.within.buffer in
    record { inside = omega (arith, k.within.opened.heap_long); few = omega arith; small = omega arith }

-- ---- in an image that is open

-- a buffer that is held is one of its buffers
pub held_open : (o : OpenImage) (address : ℕ) (p : Holding) → held_of (image_open o) address ≡ Ok p → HeldIn (image_open o) address p
held_open o address p e = held_known (image_open o) address p (open_known o) e

-- ---- what is stored

-- a buffer that is stored into is one that is held, where the bytes lie in the client's
store_held : (offset len : ℕ) (h : Result Holding Refusal) (p : Holding) → store_test offset len h ≡ Ok p → (h ≡ Ok p) × (offset + len ≤ client_size p)
store_held offset len (Ok h) p e =
    by_test (λ (x : Result Holding Refusal). x ≡ Ok p → ◌≡◌ {A = Result Holding Refusal} (Ok h) (Ok p) × (offset + len ≤ client_size p))
    (leb (offset + len) (client_size h))
    (λ t z. let s : h ≡ p = cc in (z, subst (λ (x : Holding). offset + len ≤ client_size x) s (leb-true _ _ t)))
    (λ t z. absurd (let n : ◌≡◌ {A = ℕ} 0 1 = cc in omega arith)) e
store_held offset len (Err why) p e = absurd (let z : ◌≡◌ {A = ℕ} 0 1 = cc in omega arith)

-- and what is written lies in the areas of the call
pub store_known : (profile : Profile) (a : Areas) (address offset len : ℕ) (p : Holding) → store_plan profile a address offset len ≡ Ok p
    → HeldAt profile a address p × (offset + len ≤ client_size p)
unfolding store_plan
store_known profile a address offset len p =
    by-opened (λ (x : Result Holding Refusal). x ≡ Ok p → HeldAt profile a address p × (offset + len ≤ client_size p)) (opening profile a)
    (λ g e z.
    let k = store_held offset len (held_of (image_of a g) address) p z in
    (held_at profile a g address p (opened_known _ _ _ _ g e) k.0, k.1))
    (λ why z. absurd (let n : ◌≡◌ {A = ℕ} 0 1 = cc in omega arith))

-- ---- what is shown

-- the bytes lie in the heap and are few, and the buffer is the one at the address
pub record Shows (profile : Profile) (a : Areas) (address : ℕ) (s : Shown) : Type 0 where
  pub inside : s.buffer + s.start + s.len ≤ length a.heap
  pub few : s.len ≤ 4096
  pub near : s.start ≤ 8
  pub small : s.buffer ≤ 65536
  pub starts : (sheet_of profile a.sheet).heap_base + s.buffer ≡ address

shows_held : (profile : Profile) (a : Areas) (address : ℕ) (p : Holding) → HeldAt profile a address p
    → Shows profile a address (shown (chunk_start p.spot) (client_start p) (client_size p))
shows_held profile a address p k =
    let c = client_inside _ _ _ p k.held in
    record {
      inside = c.inside;
      few = c.few;
      near = start_near p;
      small = omega (arith, c.small);
      starts = subst (λ (g : Sheet). g.heap_base + chunk_start p.spot ≡ address) k.same (sym k.starts);
    }

pub shown_known : (profile : Profile) (a : Areas) (address : ℕ) (s : Shown) → shown_of profile a address ≡ Ok s → Shows profile a address s
unfolding shown_of
shown_known profile a address s =
    by-opened (λ (x : Result Shown Refusal). x ≡ Ok s → Shows profile a address s) (opening profile a)
    (λ g e z. go g (opened_known _ _ _ _ g e) (held_of (image_of a g) address) refl z)
    (λ why z. absurd (let n : ◌≡◌ {A = ℕ} 0 1 = cc in omega arith))
  where
    go : (g : Sheet) → OpenAreas profile a g → (h : Result Holding Refusal) → held_of (image_of a g) address ≡ h → show_result h ≡ Ok s
        → Shows profile a address s
    go g o (Ok p) k f =
        let z : shown (chunk_start p.spot) (client_start p) (client_size p) ≡ s = cc in
        subst (Shows profile a address) z (shows_held profile a address p (held_at profile a g address p o k))
    go g o (Err why) k f = absurd (let z : ◌≡◌ {A = ℕ} 0 1 = cc in omega arith)

pub shown_starts : (profile : Profile) (a : Areas) (address : ℕ)
    → StartsAt (sheet_of profile a.sheet).heap_base address (shown_of profile a address)
shown_starts profile a address = go (shown_of profile a address) refl
  where
    go : (s : Result Shown Refusal) → shown_of profile a address ≡ s → StartsAt (sheet_of profile a.sheet).heap_base address s
    go (Ok s) e = (shown_known profile a address s e).starts
    go (Err why) e = tt
