-- What each call answers and writes where the invariant holds. Assumes nothing.
use Rattle.std.specs.Prelude.{Some, None, Ok, Err, Option}
use mathlib.Core.Path.{◌≡◌, refl, sym, ap, ◌∙◌, subst}
use mathlib.Core.Bool.{true, false}
use mathlib.Core.List.{List, [], ◌∷◌}
use Prim.Native.Nat.{ℕ, ◌+◌, ◌*◌, ◌<◌}
use native.Mathlib.Omega.{arith}
use borrow.Author.Tests.{eq-eqb, ne_eqb}
use lib.Dec.{leb}
use lib.ListN.{length}
use Rattle.words.specs.Word.{part}
use Rattle.words.proofs.Parts.{part-part}
use Rattle.chunks.proofs.Chunks.{grant-within}
use Rattle.chunks.specs.Chunk.{grant_size, client_offset, lawful_size}
use Rattle.chunks.specs.declared.chunk.Grant.{Grant}
use Rattle.chunks.specs.declared.chunk.Grant.TheVariants as grant
use Rattle.area.specs.Record.{record_size, address_word}
use Rattle.area.proofs.Records.{record_least}
use Rattle.area.specs.declared.record.Stamp.{Stamp}
use Rattle.sheet.specs.Areas.{Areas, outcome, refused_with, image_of, chunk_in, is_nobody}
use Rattle.geometry.specs.Sheet.{headed, chunk_place, buffer_address, record_address, buffer_of, record_of}
use Rattle.places.specs.Spot.{spot}
use Rattle.places.specs.declared.spot.Spot.{Spot}
use Rattle.allocation.specs.Allocate.{taken_chunk, taken_head, taken_of, allocate_plan, granted_areas, allocate_of}
use Rattle.held.specs.Held.{holding, held_as, held_chunk, held_of}
use Rattle.free.specs.Free.{same_grant, free_plan, freed_areas, free_of}
use Rattle.client.specs.Store.{store_plan, stored_areas, store_of}
use Rattle.client.specs.Show.{shown, shown_of}
use Rattle.geometry.specs.declared.sheet.Sheet.{Sheet}
use Rattle.tags.specs.declared.refusal.Refusal.TheVariants.{NoSuchBuffer, NoRoom, BadSize, NotAllocated, OtherGrant, PastClient, NoThread}
use Rattle.tags.specs.Refusal.{done}
use Rattle.held.specs.declared.Holding.{Holding}
use Rattle.area.proofs.Places.{place_at}
use Rattle.chain.proofs.MetRecords.{occ_here}
use Rattle.ledger.specs.Ledger.{Call, allocate, free, store, Entry, as_granted, result_of, by_nobody}
use Rattle.ledger.proofs.Chunks.{chunk_for, LawfulEntry, granted_verdict, free_sound, client-part}
use Rattle.ledger.proofs.Invariant.{Laid, outs, Invariant, record_fits, records-some, chunk_some, first_below, first_address, none_linked, opens}
use Rattle.ledger.proofs.Found.{first_for, pattern_for}

held_as_lem : (q : Grant) (p : Spot) → held_as (as_granted q) p ≡ Ok (holding p q)
held_as_lem grant.Whole p = refl
held_as_lem (grant.Sized s) p = refl

pub none_out : (o : Option Entry) → outs o ≡ 0 → o ≡ None
none_out None e = refl
none_out (Some o) e = absurd (omega arith)

module _ (g : Sheet) (laid : Laid g) where
  -- buffer j with its record j, of the image as it is
  abbrev pub pair_at : ℕ → ℕ → Spot
  pair_at head j = spot (headed g head) j j

  abbrev pub hold : ℕ → ℕ → Grant → Holding
  hold head j q = holding (pair_at head j) q

  record_place_lem : (j : ℕ) → j < g.count → (w : ℕ) → w ≡ record_address g j → record_of g w ≡ Some j
  record_place_lem j h w e = place_at g.record_base (record_size g.format.profile) g.count w j (omega (arith, record_least g.format.profile)) h e

  buffer-place : (j : ℕ) → j < g.count → (w : ℕ) → w ≡ buffer_address g j → buffer_of g w ≡ Some j
  buffer-place j h w e = place_at g.heap_base g.chunk g.count w j (chunk_some g laid) h e

  module _ {head : ℕ} {a : Areas} {out : ℕ → Option Entry} {chain : List ℕ} (v : Invariant g head a out chain) where
    pub chunk_is : (j : ℕ) → j < g.count → (o : Option Entry) → out (buffer_address g j) ≡ o
        → chunk_in g a.heap j ≡ chunk_for g.format g.size (record_address g j) o
    chunk_is j h o e = v.chunks j h ∙ ap (chunk_for g.format g.size (record_address g j)) e

    pub entry_is : (j : ℕ) → j < g.count → (o : Option Entry) → out (buffer_address g j) ≡ o → LawfulEntry g.format.profile g.size o
    entry_is j h o e = subst (LawfulEntry g.format.profile g.size) e (v.entries j h)

    -- ---- what free, store and show find

    pub held_out : (j : ℕ) → j < g.count → (o : Entry) → out (buffer_address g j) ≡ Some o
        → held_of (image_of a (headed g head)) (buffer_address g j) ≡ Ok (hold head j o.grant)
    unfolding held_of held_chunk
    held_out j h o e =
        let l = entry_is j h (Some o) e in
        let word = record_fits g laid j h in
        let few = laid.law.sizes.most in
        rw (
          buffer-place j h (buffer_address g j) refl,
          chunk_is j h (Some o) e,
          pattern_for g.format g.size (record_address g j) few word (Some o) l,
          first_for g.format g.size (record_address g j) few word (Some o) l,
          record_place_lem j h (record_address g j) refl,
          eq-eqb (address_word g.format a.records j) (buffer_address g j) (v.names j h),
          granted_verdict g.format g.size (record_address g j) few word o.grant l.0 o.client l.1,
        )
        (held_as_lem o.grant (pair_at head j))

    pub held_in : (j : ℕ) → j < g.count → out (buffer_address g j) ≡ None
        → held_of (image_of a (headed g head)) (buffer_address g j) ≡ Err NotAllocated
    unfolding held_of held_chunk
    held_in j h e =
        let word = record_fits g laid j h in
        let few = laid.law.sizes.most in
        rw (
          buffer-place j h (buffer_address g j) refl,
          chunk_is j h None e,
          pattern_for g.format g.size (record_address g j) few word None tt,
          first_for g.format g.size (record_address g j) few word None tt,
          record_place_lem j h (record_address g j) refl,
          eq-eqb (address_word g.format a.records j) (buffer_address g j) (v.names j h),
        )

    pub held_stray : (x : ℕ) → buffer_of g x ≡ None → held_of (image_of a (headed g head)) x ≡ Err NoSuchBuffer
    unfolding held_of
    held_stray x e = rw e

    -- ---- a call of nobody

    pub nobody : (call : Call) → by_nobody call ≡ true → result_of g.format.profile call a ≡ refused_with (Err NoThread) a
    unfolding allocate_of allocate_plan free_of free_plan
    nobody (allocate q t) n = rw (opens g laid v, n)
    nobody (free x q t) n = rw (opens g laid v, n)
    nobody (store x offset bytes) n = absurd (let z : ◌≡◌ {A = ℕ} 0 1 = cc in omega arith)

    -- ---- free

    pub free-done : (j : ℕ) → j < g.count → (o : Entry) → out (buffer_address g j) ≡ Some o → (q : Grant) (t : Stamp) → is_nobody t.thread ≡ false
        → same_grant o.grant q ≡ true
        → free_of g.format.profile a (buffer_address g j) q t ≡ outcome done (freed_areas a t (pair_at head j))
    unfolding free_of free_plan
    free-done j h o e q t n s = rw (opens g laid v, n, held_out j h o e, s)

    pub free_other : (j : ℕ) → j < g.count → (o : Entry) → out (buffer_address g j) ≡ Some o → (q : Grant) (t : Stamp) → is_nobody t.thread ≡ false
        → same_grant o.grant q ≡ false
        → free_of g.format.profile a (buffer_address g j) q t ≡ refused_with (Err OtherGrant) a
    unfolding free_of free_plan
    free_other j h o e q t n s = rw (opens g laid v, n, held_out j h o e, s)

    pub free_in : (j : ℕ) → j < g.count → out (buffer_address g j) ≡ None → (q : Grant) (t : Stamp) → is_nobody t.thread ≡ false
        → free_of g.format.profile a (buffer_address g j) q t ≡ refused_with (Err NotAllocated) a
    unfolding free_of free_plan
    free_in j h e q t n = rw (opens g laid v, n, held_in j h e)

    pub free_stray : (x : ℕ) → buffer_of g x ≡ None → (q : Grant) (t : Stamp) → is_nobody t.thread ≡ false
        → free_of g.format.profile a x q t ≡ refused_with (Err NoSuchBuffer) a
    unfolding free_of free_plan
    free_stray x e q t n = rw (opens g laid v, n, held_stray x e)

    -- ---- store

    pub store-done : (j : ℕ) → j < g.count → (o : Entry) → out (buffer_address g j) ≡ Some o → (offset : ℕ) (bytes : List ℕ)
        → leb (offset + length bytes) (grant_size g.size o.grant) ≡ true
        → store_of g.format.profile a (buffer_address g j) offset bytes ≡ outcome done (stored_areas a offset bytes (hold head j o.grant))
    unfolding store_of store_plan
    store-done j h o e offset bytes s = rw (opens g laid v, held_out j h o e, s)

    pub store_past : (j : ℕ) → j < g.count → (o : Entry) → out (buffer_address g j) ≡ Some o → (offset : ℕ) (bytes : List ℕ)
        → leb (offset + length bytes) (grant_size g.size o.grant) ≡ false
        → store_of g.format.profile a (buffer_address g j) offset bytes ≡ refused_with (Err PastClient) a
    unfolding store_of store_plan
    store_past j h o e offset bytes s = rw (opens g laid v, held_out j h o e, s)

    pub store_in : (j : ℕ) → j < g.count → out (buffer_address g j) ≡ None → (offset : ℕ) (bytes : List ℕ)
        → store_of g.format.profile a (buffer_address g j) offset bytes ≡ refused_with (Err NotAllocated) a
    unfolding store_of store_plan
    store_in j h e offset bytes = rw (opens g laid v, held_in j h e)

    pub store_stray : (x : ℕ) → buffer_of g x ≡ None → (offset : ℕ) (bytes : List ℕ)
        → store_of g.format.profile a x offset bytes ≡ refused_with (Err NoSuchBuffer) a
    unfolding store_of store_plan
    store_stray x e offset bytes = rw (opens g laid v, held_stray x e)

    -- ---- show

    pub show-out : (j : ℕ) → j < g.count → (o : Entry) → out (buffer_address g j) ≡ Some o
        → shown_of g.format.profile a (buffer_address g j)
        ≡ Ok (shown (chunk_place g j) (client_offset g.format.profile o.grant) (grant_size g.size o.grant))
    unfolding shown_of
    show-out j h o e = rw (opens g laid v, held_out j h o e)

    pub show_in : (j : ℕ) → j < g.count → out (buffer_address g j) ≡ None → shown_of g.format.profile a (buffer_address g j) ≡ Err NotAllocated
    unfolding shown_of
    show_in j h e = rw (opens g laid v, held_in j h e)

    pub client-is : (j : ℕ) → j < g.count → (o : Entry) → out (buffer_address g j) ≡ Some o
        → part a.heap (chunk_place g j + client_offset g.format.profile o.grant) (grant_size g.size o.grant) ≡ o.client
    client-is j h o e =
        let l = entry_is j h (Some o) e in
        let k = grant_size g.size o.grant in
        let at = client_offset g.format.profile o.grant in
        sym
        (part-part a.heap (j * g.chunk) g.chunk at k
        (omega (arith, grant-within g.format.profile g.size o.grant l.0, laid.law.sizes.chunks)))
        ∙ ap (λ (x : List ℕ). part x at k) (chunk_is j h (Some o) e)
        ∙ client-part g.format g.size (record_address g j) o l

    -- ---- allocate

    pub allocate_unlawful : (q : Grant) (t : Stamp) → is_nobody t.thread ≡ false → lawful_size g.format.profile g.size q ≡ false
        → allocate_of g.format.profile a q t ≡ refused_with (Err BadSize) a
    unfolding allocate_of allocate_plan taken_of
    allocate_unlawful q t n e = rw (opens g laid v, n, e)

  pub allocate-none : {head : ℕ} {a : Areas} {out : ℕ → Option Entry} → Invariant g head a out [] → (q : Grant) (t : Stamp) → is_nobody t.thread ≡ false
      → lawful_size g.format.profile g.size q ≡ true
      → allocate_of g.format.profile a q t ≡ refused_with (Err NoRoom) a
  unfolding allocate_of allocate_plan taken_of
  allocate-none {head} v q t n e = rw (opens g laid v, n, e, eq-eqb head 0 (none_linked g laid _ head v.linked))

  module _ {head : ℕ} {a : Areas} {out : ℕ → Option Entry} {j : ℕ} {js : List ℕ} (v : Invariant g head a out (j ∷ js)) where
    pub taken_below : j < g.count
    taken_below = first_below g laid _ head j js v.linked

    -- the head's buffer is not out
    pub taken_in : out (buffer_address g j) ≡ None
    taken_in = none_out (out (buffer_address g j)) (omega (arith, v.each j taken_below, occ_here j js))

    pub allocate-some : (q : Grant) (t : Stamp) → is_nobody t.thread ≡ false → lawful_size g.format.profile g.size q ≡ true
        → allocate_of g.format.profile a q t ≡ outcome (Ok (buffer_address g j)) (granted_areas a q t (pair_at head j))
    unfolding allocate_of allocate_plan taken_of taken_head taken_chunk
    allocate-some q t n e =
        let h = taken_below in
        let at = first_address g laid _ head j js v.linked in
        let word = record_fits g laid j h in
        let few = laid.law.sizes.most in
        rw (
          opens g laid v,
          n,
          e,
          ne_eqb head 0 (λ z. records-some g laid (omega arith)),
          record_place_lem j h head at,
          buffer-place j h (address_word g.format a.records j) (v.names j h),
          chunk_is v j h None taken_in,
          pattern_for g.format g.size (record_address g j) few word None tt,
          first_for g.format g.size (record_address g j) few word None tt,
          eq-eqb (record_address g j) head (sym at),
          free_sound g.format g.size (record_address g j),
        )
