-- Every call keeps the invariant, and so does every list of calls on an image that was laid out. Assumes nothing.
use Rattle.std.specs.Prelude.{Some, None, Err, Option}
use mathlib.Core.Path.{◌≡◌, refl, sym, ap, ◌∙◌, subst}
use mathlib.Core.Bool.{Bool, true, false}
use mathlib.Core.List.{List, [], ◌∷◌}
use Prim.Native.Nat.{ℕ, ◌+◌, ◌<◌}
use native.Mathlib.Omega.{arith}
use borrow.Author.Tests.{leb-true}
use lib.Dec.{leb}
use lib.ListN.{length}
use Rattle.words.specs.Sum.{total}
use Rattle.words.proofs.Sums.{total_change, total-none}
use Rattle.chunks.specs.Chunk.{grant_size, lawful_size}
use Rattle.chunks.specs.declared.chunk.Grant.{Grant}
use Rattle.area.specs.Record.{next_word}
use Rattle.area.specs.declared.record.Stamp.{Stamp}
use Rattle.sheet.specs.Areas.{is_nobody}
use Rattle.geometry.specs.Sheet.{buffer_address, record_address, buffer_of}
use Rattle.layout.specs.Layout.{laid_areas}
use Rattle.free.specs.Free.{same_grant}
use Rattle.client.specs.Store.{stored_areas}
use Rattle.geometry.specs.declared.sheet.Sheet.{Sheet}
use Rattle.area.proofs.Places.{address_one, place_found}
use Rattle.tags.specs.declared.format.Format.{Format}
use Rattle.tags.specs.declared.refusal.Refusal.{Refusal}
use Rattle.tags.specs.declared.refusal.Refusal.TheVariants.{NoThread}
use Rattle.ledger.specs.Ledger.{Entry, Ledger, Call, allocate, free, store, by_nobody, put, fresh, overwritten, after_call, RunState, begun, step, run}
use Rattle.ledger.proofs.Counts.{put_same, put_other, range}
use Rattle.ledger.proofs.Invariant.{Laid, outs, Invariant, chunk_some}
use Rattle.ledger.proofs.Calls.{hold, nobody, taken_below, taken_in, allocate_unlawful, allocate-none, allocate-some}
use Rattle.ledger.proofs.Calls.{free-done, free_other, free_in, free_stray, store-done, store_past, store_in, store_stray}
use Rattle.ledger.proofs.Keeps.{granted_keeps, freed_keeps, stored_keeps}
use Rattle.ledger.proofs.Start.{laid_invariant}

-- how many buffers are out
abbrev pub out_count : Sheet → (ℕ → Option Entry) → ℕ
out_count g out = total (λ i. outs (out (buffer_address g i))) g.count

-- the invariant of a run
pub record RunInvariant (g : Sheet) (w : RunState) : Type 0 where
  pub head : ℕ
  pub chain : List ℕ
  pub invariant : Invariant g head w.areas w.ledger.out chain
  pub balance : w.ledger.allocations ≡ w.ledger.frees + out_count g w.ledger.out

-- B5 (a refused call)
refused_ledger : (f : Format) (size : ℕ) (call : Call) (why : Refusal) (l : Ledger) → after_call f size call (Err why) l ≡ l
refused_ledger f size (allocate q t) why l = refl
refused_ledger f size (free address q t) why l = refl
refused_ledger f size (store address offset bytes) why l = refl

module _ (g : Sheet) (laid : Laid g) where
  -- one entry of the ledger is changed
  count-put : (j : ℕ) → j < g.count → (o : Option Entry) (out : ℕ → Option Entry)
      → out_count g (put (buffer_address g j) o out) + outs (out (buffer_address g j)) ≡ out_count g out + outs o
  count-put j h o out =
      total_change (λ i. outs (put (buffer_address g j) o out (buffer_address g i))) (λ i. outs (out (buffer_address g i))) g.count j h
      (λ i l ne. ap outs
      (put_other (buffer_address g j) (buffer_address g i) o out (λ e. ne (address_one g.heap_base g.chunk i j (chunk_some g laid) e))))
      ∙ ap (λ (x : Option Entry). out_count g out + outs x) (put_same (buffer_address g j) o out)

  -- an address is no buffer's, or that of one that is not out, or of one that is
  module _ (out : ℕ → Option Entry) (P : ℕ → Type 0)
      (stray : (x : ℕ) → buffer_of g x ≡ None → P x)
      (inside : (j : ℕ) → j < g.count → out (buffer_address g j) ≡ None → P (buffer_address g j))
      (outside : (j : ℕ) → j < g.count → (o : Entry) → out (buffer_address g j) ≡ Some o → P (buffer_address g j)) where
    at : (j : ℕ) → j < g.count → (o : Option Entry) → out (buffer_address g j) ≡ o → P (buffer_address g j)
    at j h None e = inside j h e
    at j h (Some o) e = outside j h o e

    pub by_address : (x : ℕ) → P x
    by_address x = go (buffer_of g x) refl
      where
        go : (p : Option ℕ) → buffer_of g x ≡ p → P x
        go None e = stray x e
        go (Some j) e =
            let f = place_found g.heap_base g.chunk g.count x j e in
            subst P (sym f.1) (at j f.0 (out (buffer_address g j)) refl)

  -- ---- each call

  allocate_keeps : (w : RunState) (q : Grant) (t : Stamp) (head : ℕ) (chain : List ℕ) → Invariant g head w.areas w.ledger.out chain
      → w.ledger.allocations ≡ w.ledger.frees + out_count g w.ledger.out → is_nobody t.thread ≡ false
      → (b : Bool) → lawful_size g.format.profile g.size q ≡ b
      → RunInvariant g (step g.format g.size (allocate q t) w)
  allocate_keeps w q t head chain v k n false e =
      rw (allocate_unlawful g laid v q t n e) (record { head = head; chain = chain; invariant = v; balance = k })
  allocate_keeps w q t head [] v k n true e =
      rw (allocate-none g laid v q t n e) (record { head = head; chain = []; invariant = v; balance = k })
  allocate_keeps w q t head (j ∷ js) v k n true e =
      rw (allocate-some g laid v q t n e)
      (record {
        head = next_word g.format w.areas.records j;
        chain = js;
        invariant = granted_keeps g laid q t e v;
        balance = omega (arith, count-put j (taken_below g laid v) (Some (fresh g.format g.size q)) w.ledger.out, ap outs (taken_in g laid v));
      })

  free_keeps : (w : RunState) (address : ℕ) (q : Grant) (t : Stamp) → is_nobody t.thread ≡ false → RunInvariant g w
      → RunInvariant g (step g.format g.size (free address q t) w)
  free_keeps w address q t n f =
      by_address w.ledger.out (λ x. RunInvariant g (step g.format g.size (free x q t) w))
      (λ x e. rw (free_stray g laid f.invariant x e q t n) f)
      (λ j h e. rw (free_in g laid f.invariant j h e q t n) f)
      (λ j h o e. go j h o e (same_grant o.grant q) refl)
      address
    where
      go : (j : ℕ) → j < g.count → (o : Entry) → w.ledger.out (buffer_address g j) ≡ Some o → (b : Bool) → same_grant o.grant q ≡ b
          → RunInvariant g (step g.format g.size (free (buffer_address g j) q t) w)
      go j h o e true s =
          rw (free-done g laid f.invariant j h o e q t n s)
          (record {
            head = record_address g j;
            chain = j ∷ f.chain;
            invariant = freed_keeps g laid j o t f.invariant h e;
            balance = omega (arith, f.balance, count-put j h None w.ledger.out, ap outs e);
          })
      go j h o e false s = rw (free_other g laid f.invariant j h o e q t n s) f

  store_keeps : (w : RunState) (address offset : ℕ) (bytes : List ℕ) → RunInvariant g w
      → RunInvariant g (step g.format g.size (store address offset bytes) w)
  store_keeps w address offset bytes f =
      by_address w.ledger.out (λ x. RunInvariant g (step g.format g.size (store x offset bytes) w))
      (λ x e. rw (store_stray g laid f.invariant x e offset bytes) f)
      (λ j h e. rw (store_in g laid f.invariant j h e offset bytes) f)
      (λ j h o e. go j h o e (leb (offset + length bytes) (grant_size g.size o.grant)) refl)
      address
    where
      go : (j : ℕ) → j < g.count → (o : Entry) → w.ledger.out (buffer_address g j) ≡ Some o
          → (b : Bool) → leb (offset + length bytes) (grant_size g.size o.grant) ≡ b
          → RunInvariant g (step g.format g.size (store (buffer_address g j) offset bytes) w)
      go j h o e true s =
          rw (store-done g laid f.invariant j h o e offset bytes s)
          (record {
            head = f.head;
            chain = f.chain;
            invariant = subst
                (λ (x : Option Entry). Invariant g f.head (stored_areas w.areas offset bytes (hold g laid f.head j o.grant))
                (put (buffer_address g j) (overwritten offset bytes x) w.ledger.out) f.chain)
                (sym e)
                (stored_keeps g laid j o offset bytes f.invariant h e (leb-true (offset + length bytes) (grant_size g.size o.grant) s));
            balance = omega (
              arith,
              f.balance,
              count-put j h (overwritten offset bytes (w.ledger.out (buffer_address g j))) w.ledger.out,
              ap outs e,
              ap (λ (x : Option Entry). outs (overwritten offset bytes x)) e,
            );
          })
      go j h o e false s = rw (store_past g laid f.invariant j h o e offset bytes s) f

  -- a call of nobody changes nothing
  pub nobody-same : (call : Call) (w : RunState) → by_nobody call ≡ true → RunInvariant g w → step g.format g.size call w ≡ w
  nobody-same call w n f = rw (nobody g laid f.invariant call n, refused_ledger g.format g.size call NoThread w.ledger)

  somebody_keeps : (call : Call) (w : RunState) → by_nobody call ≡ false → RunInvariant g w → RunInvariant g (step g.format g.size call w)
  somebody_keeps (allocate q t) w n f =
      allocate_keeps w q t f.head f.chain f.invariant f.balance n (lawful_size g.format.profile g.size q) refl
  somebody_keeps (free address q t) w n f = free_keeps w address q t n f
  somebody_keeps (store address offset bytes) w n f = store_keeps w address offset bytes f

  pub step_keeps : (call : Call) (w : RunState) → RunInvariant g w → RunInvariant g (step g.format g.size call w)
  step_keeps call w f = go (by_nobody call) refl
    where
      go : (b : Bool) → by_nobody call ≡ b → RunInvariant g (step g.format g.size call w)
      go true n = rw (nobody-same call w n f) f
      go false n = somebody_keeps call w n f

  pub run_keeps : (calls : List Call) (w : RunState) → RunInvariant g w → RunInvariant g (run g.format g.size calls w)
  unfolding run
  run_keeps [] w f = f
  run_keeps (call ∷ calls) w f = run_keeps calls (step g.format g.size call w) (step_keeps call w f)

  pub begun_keeps : g.head ≡ g.record_base → RunInvariant g (begun (laid_areas g))
  begun_keeps e = record { head = g.head; chain = range 0 g.count; invariant = laid_invariant g laid e; balance = omega (arith, total-none g.count) }
