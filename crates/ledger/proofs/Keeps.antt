-- An accepted call keeps the invariant. Assumes nothing.
use Rattle.std.specs.Prelude.{None, Option, Some}
use mathlib.Core.Path.{◌≡◌, refl, sym, ap, ◌∙◌, subst}
use mathlib.Core.Logic.{◌≢◌}
use mathlib.Core.Bool.{true}
use mathlib.Core.List.{List, ◌∷◌}
use Prim.Native.Nat.{ℕ, ◌+◌, ◌*◌, ◌≤◌, ◌<◌}
use native.Mathlib.Nat.{add-zero}
use native.Mathlib.Omega.{arith}
use lib.ListN.{length}
use lib.Seq.{sets, length-sets}
use Rattle.words.specs.Word.{part}
use Rattle.words.proofs.Parts.{part_written, part_inside, part-place}
use Rattle.chunks.specs.Chunk.{lawful_size, free_chunk, granted_chunk, grant_size, client_offset}
use Rattle.chunks.proofs.Chunks.{length-free_chunk, length-granted_chunk, grant-within}
use Rattle.chunks.specs.declared.chunk.Grant.{Grant}
use Rattle.area.specs.Record.{record_size, stamped, with_next, next_at, buffer_at, next_word}
use Rattle.area.specs.declared.record.Stamp.{Stamp}
use Rattle.area.proofs.Records.{record_least, length-stamped, stamped_word, length_with_next, next-same, next_other, next_name}
use Rattle.sheet.specs.Areas.{Areas, chunk_in}
use Rattle.geometry.specs.Sheet.{headed, heap_length, buffer_address, record_address, buffer_of}
use Rattle.geometry.specs.declared.sheet.Sheet.{Sheet}
use Rattle.sheet.proofs.Bytes.{sheet_head}
use Rattle.geometry.proofs.Sheets.{chunk_inside, record_inside}
use Rattle.chain.specs.Chain.{occ}
use Rattle.chain.proofs.MetRecords.{occ_cons, occ_here, occ-apart}
use Rattle.chain.proofs.Chains.{Linked, linked_same}
use Rattle.allocation.specs.Allocate.{granted_areas}
use Rattle.free.specs.Free.{freed_areas}
use Rattle.client.specs.Store.{stored_areas}
use Rattle.ledger.specs.Ledger.{Entry, put, fresh, overwritten}
use Rattle.ledger.proofs.Chunks.{chunk_for, LawfulEntry, fresh_chunk, fresh-lawful, store_chunk, store-lawful}
use Rattle.ledger.proofs.Counts.{at_put, stray_put}
use Rattle.ledger.proofs.Invariant.{Laid, outs, Invariant, chunk_some, first_address, rest_linked, head_fits}
use Rattle.ledger.proofs.Calls.{pair_at, hold, taken_below, chunk_is, entry_is}

-- ---- the chunks

other_chunk : (c l : List ℕ) (s i j o : ℕ) → o + length c ≤ s → i ≢ j → part (sets l (j * s + o) c) (i * s) s ≡ part l (i * s) s
other_chunk c l s i j o e ne = simp add-zero at (part-place c l s j o i 0 s e (omega arith) ne)

whole_chunk : (c l : List ℕ) (s i j : ℕ) → length c ≡ s → i ≢ j → part (sets l (j * s) c) (i * s) s ≡ part l (i * s) s
whole_chunk c l s i j e ne =
    ap (λ (x : ℕ). part (sets l x c) (i * s) s) (sym (add-zero (j * s))) ∙ other_chunk c l s i j 0 (omega arith) ne

module _ (g : Sheet) (laid : Laid g) where
  -- what holds of the new entry and of each other one, and that an address that is no buffer's has the entry that it had
  each_entry : (j : ℕ) (o : Option Entry) (out : ℕ → Option Entry) (P : ℕ → Option Entry → Type 0) → P j o
      → ((i : ℕ) → i < g.count → i ≢ j → P i (out (buffer_address g i))) → (i : ℕ) → i < g.count → P i (put (buffer_address g j) o out (buffer_address g i))
  each_entry j = at_put g.heap_base g.chunk g.count j (chunk_some g laid)

  stray_entry : (j : ℕ) (o : Option Entry) (out : ℕ → Option Entry) (x : ℕ) → j < g.count → buffer_of g x ≡ None → put (buffer_address g j) o out x ≡ out x
  stray_entry j = stray_put g.heap_base g.chunk g.count j (chunk_some g laid)

  -- a chunk that is written whole
  same_chunk : (c l : List ℕ) (j : ℕ) → length c ≡ g.size + 16 → length l ≡ heap_length g → j < g.count
      → part (sets l (j * g.chunk) c) (j * g.chunk) g.chunk ≡ c
  same_chunk c l j e el h =
      part_written l c (j * g.chunk) g.chunk (omega (arith, laid.law.sizes.chunks)) (omega (arith, chunk_inside g laid.law j h))

  pub granted_keeps : {head : ℕ} {a : Areas} {out : ℕ → Option Entry} {j : ℕ} {js : List ℕ} (q : Grant) (t : Stamp)
      → lawful_size g.format.profile g.size q ≡ true → Invariant g head a out (j ∷ js)
      → Invariant g (next_word g.format a.records j) (granted_areas a q t (pair_at g laid head j))
      (put (buffer_address g j) (Some (fresh g.format g.size q)) out) js
  unfolding granted_areas
  granted_keeps {head} {a} {out} {j} {js} q t l v =
      let h : j < g.count = taken_below g laid v in
      let at : head ≡ record_address g j = first_address g laid _ head j js v.linked in
      let new : Option Entry = Some (fresh g.format g.size q) in
      let c = granted_chunk g.format g.size head q in
      let long : length c ≡ g.size + 16 = length-granted_chunk g.format g.size head q in
      let heap = sets a.heap (j * g.chunk) c in
      let r = stamped g.format a.records j t in
      record {
        sheet_is = rw v.sheet_is (sheet_head (headed g head) (next_word g.format a.records j));
        heap_long = length-sets a.heap (j * g.chunk) c ∙ v.heap_long;
        records_long = length-stamped g.format a.records j t ∙ v.records_long;
        linked = linked_same (next_word g.format a.records) (next_word g.format r)
            g.record_base (record_size g.format.profile) g.count (next_word g.format a.records j) js
            (λ i m. sym (stamped_word g.format a.records j t i next_at (omega arith)))
            (rest_linked g laid (next_word g.format a.records) head j js v.linked);
        each = each_entry j new out (λ i x. occ i js + outs x ≡ 1)
            (omega (arith, v.each j h, occ_here j js))
            (λ i k ne. omega (arith, v.each i k, occ-apart i j js ne));
        only = λ i k. omega (arith, v.only i k, occ_cons i j js);
        chunks = each_entry j new out (λ i x. chunk_in g heap i ≡ chunk_for g.format g.size (record_address g i) x)
            (same_chunk c a.heap j long v.heap_long h
            ∙ ap (λ (x : ℕ). granted_chunk g.format g.size x q) at
            ∙ fresh_chunk g.format g.size (record_address g j) q l)
            (λ i k ne. whole_chunk c a.heap g.chunk i j (omega (arith, laid.law.sizes.chunks)) ne ∙ v.chunks i k);
        names = λ i k. stamped_word g.format a.records j t i buffer_at (omega arith) ∙ v.names i k;
        entries = each_entry j new out (λ i x. LawfulEntry g.format.profile g.size x)
            (fresh-lawful g.format g.size q l) (λ i k ne. v.entries i k);
        stray = λ x e. stray_entry j new out x h e ∙ v.stray x e;
      }

  pub freed_keeps : {head : ℕ} {a : Areas} {out : ℕ → Option Entry} {chain : List ℕ} (j : ℕ) (o : Entry) (t : Stamp)
      → Invariant g head a out chain → j < g.count
      → out (buffer_address g j) ≡ Some o
      → Invariant g (record_address g j) (freed_areas a t (pair_at g laid head j)) (put (buffer_address g j) None out) (j ∷ chain)
  unfolding freed_areas Linked
  freed_keeps {head} {a} {out} {chain} j o t v h e =
      let c = free_chunk g.format g.size (record_address g j) in
      let long : length c ≡ g.size + 16 = length-free_chunk g.format g.size (record_address g j) in
      let heap = sets a.heap (j * g.chunk) c in
      let before = with_next g.format a.records j head in
      let r = stamped g.format before j t in
      let gone : occ j chain ≡ 0 = omega (arith, v.each j h, ap outs e) in
      let leads : next_word g.format r j ≡ head
      = stamped_word g.format before j t j next_at (omega arith)
      ∙ next-same g.format a.records j head (head_fits g laid (next_word g.format a.records) head chain v.linked)
      (omega (arith, v.records_long, record_inside g laid.law j h, record_least g.format.profile)) in
      let kept : Linked (next_word g.format r) g.record_base (record_size g.format.profile) g.count head chain
      = linked_same (next_word g.format a.records) (next_word g.format r) g.record_base (record_size g.format.profile) g.count head chain
      (λ i m. sym
      (stamped_word g.format before j t i next_at (omega arith)
      ∙ next_other g.format a.records j head i (λ q. m (ap (λ (x : ℕ). occ x chain) q ∙ gone))))
      v.linked in
      record {
        sheet_is = rw v.sheet_is (sheet_head (headed g head) (record_address g j));
        heap_long = length-sets a.heap (j * g.chunk) c ∙ v.heap_long;
        records_long = length-stamped g.format before j t ∙ length_with_next g.format a.records j head ∙ v.records_long;
        linked = (
          h,
          (
            refl,
            subst (λ (x : ℕ). Linked (next_word g.format r) g.record_base (record_size g.format.profile) g.count x chain)
                (sym leads)
                kept,
          ),
        );
        each = each_entry j None out (λ i x. occ i (j ∷ chain) + outs x ≡ 1)
            (omega (arith, occ_here j chain))
            (λ i k ne. omega (arith, v.each i k, occ-apart i j chain ne));
        only = λ i k. let ne : i ≢ j = omega arith in omega (arith, v.only i k, occ-apart i j chain ne);
        chunks = each_entry j None out (λ i x. chunk_in g heap i ≡ chunk_for g.format g.size (record_address g i) x)
            (same_chunk c a.heap j long v.heap_long h)
            (λ i k ne. whole_chunk c a.heap g.chunk i j (omega (arith, laid.law.sizes.chunks)) ne ∙ v.chunks i k);
        names = λ i k. stamped_word g.format before j t i buffer_at (omega arith) ∙ next_name g.format a.records j head i ∙ v.names i k;
        entries = each_entry j None out (λ i x. LawfulEntry g.format.profile g.size x) tt (λ i k ne. v.entries i k);
        stray = λ x q. stray_entry j None out x h q ∙ v.stray x q;
      }

  pub stored_keeps : {head : ℕ} {a : Areas} {out : ℕ → Option Entry} {chain : List ℕ} (j : ℕ) (o : Entry) (offset : ℕ) (bytes : List ℕ)
      → Invariant g head a out chain → j < g.count → out (buffer_address g j) ≡ Some o → offset + length bytes ≤ grant_size g.size o.grant
      → Invariant g head (stored_areas a offset bytes (hold g laid head j o.grant)) (put (buffer_address g j) (overwritten offset bytes (Some o)) out) chain
  unfolding stored_areas
  stored_keeps {head} {a} {out} {chain} j o offset bytes v h e fits =
      let l = entry_is g laid v j h (Some o) e in
      let new : Option Entry = overwritten offset bytes (Some o) in
      let start = client_offset g.format.profile o.grant in
      let at = j * g.chunk + start + offset in
      let heap = sets a.heap at bytes in
      let same : j * g.chunk + (start + offset) ≡ at = omega arith in
      let inside : start + offset + length bytes ≤ g.chunk
      = omega (arith, grant-within g.format.profile g.size o.grant l.0, laid.law.sizes.chunks) in
      record {
        sheet_is = v.sheet_is;
        heap_long = length-sets a.heap at bytes ∙ v.heap_long;
        records_long = v.records_long;
        linked = v.linked;
        each = each_entry j new out (λ i x. occ i chain + outs x ≡ 1)
            (omega (arith, v.each j h, ap outs e)) (λ i k ne. v.each i k);
        only = v.only;
        chunks = each_entry j new out (λ i x. chunk_in g heap i ≡ chunk_for g.format g.size (record_address g i) x)
            (ap (λ (x : ℕ). chunk_in g (sets a.heap x bytes) j) (sym same)
            ∙ part_inside bytes a.heap (j * g.chunk) g.chunk (start + offset) inside
            ∙ ap (λ (x : List ℕ). sets x (start + offset) bytes) (chunk_is g laid v j h (Some o) e)
            ∙ store_chunk g.format g.size (record_address g j) offset bytes o l fits)
            (λ i k ne.
            ap (λ (x : ℕ). chunk_in g (sets a.heap x bytes) i) (sym same)
            ∙ other_chunk bytes a.heap g.chunk i j (start + offset) inside ne
            ∙ v.chunks i k);
        names = v.names;
        entries = each_entry j new out (λ i x. LawfulEntry g.format.profile g.size x)
            (store-lawful g.format.profile g.size offset bytes o l) (λ i k ne. v.entries i k);
        stray = λ x q. stray_entry j new out x h q ∙ v.stray x q;
      }
