-- What a chunk says, free or granted, with any client bytes written over it: proved once over the buffer size and the format. Assumes nothing.
use Rattle.std.specs.Prelude.{Option, None, Some}
use mathlib.Core.Path.{◌≡◌, refl, sym, ap, ◌∙◌}
use mathlib.Core.Bool.{true}
use mathlib.Core.Logic.{◌≢◌, inr}
use mathlib.Core.List.{List, [], ◌∷◌, ◌++◌, append_assoc}
use Prim.Native.Nat.{ℕ, ◌+◌, ◌-◌, ◌%◌, ◌≤◌, ◌<◌}
use native.Mathlib.Nat.{add-zero}
use native.Mathlib.Decide.{ℕ_discrete}
use native.Mathlib.Omega.{arith}
use borrow.Author.Tests.{eq-eqb, ne_eqb}
use lib.Bits.{xor_lt}
use lib.Dec.{lit<}
use lib.ListN.{length, get_or, set, length-set, length-append}
use lib.Seq.{sets, length-sets, get_or-set_same}
use Rattle.words.specs.Word.{part, number, number_at}
use Rattle.runs.specs.Run.{repeated}
use Rattle.words.proofs.Numbers.{length_bytes_of, number_back, number_at_outside}
use Rattle.words.proofs.Parts.{get_or_part, part_left, part_right, part_all, part_written, part-before, part-after, part_inside, sets_over, sets_same}
use Rattle.runs.proofs.Runs.{length-repeated, repeated_twice, same_nowhere, part-repeated}
use Rattle.tags.specs.Format.{word_bytes, word_at}
use Rattle.tags.specs.declared.format.Format.{Format}
use Rattle.tags.specs.declared.format.Profile.{Profile}
use Rattle.tags.specs.Tag.{tag_of, state_word}
use Rattle.tags.specs.SizeCode.{code_of}
use Rattle.chunks.specs.Header.{header_size, coded_size, request_of, header_bytes, header_right}
use Rattle.chunks.specs.Chunk.{redzone, free_fill, grant_fill, guard, chunk_of, filled_chunk, guarded_chunk, free_chunk, granted_chunk, tag_at, lawful_size, grant_size}
use Rattle.chunks.specs.Chunk.{client_offset}
use Rattle.chunks.specs.Judge.{free_verdict, coded_verdict, allocated_verdict, sized_verdict, header_verdict, headed_verdict, zone_verdict, zone_after}
use Rattle.chunks.proofs.Headers.{header_words, length-header_bytes, right_written}
use Rattle.tags.proofs.Tags.{decode_code}
use Rattle.chunks.proofs.Chunks.{length_chunk_of, length-free_chunk, length-granted_chunk, grant-within, lawful-within}
use Rattle.tags.specs.declared.tag.State.{State}
use Rattle.tags.specs.declared.tag.State.TheVariants as state
use Rattle.chunks.specs.declared.chunk.Grant.{Grant}
use Rattle.chunks.specs.declared.chunk.Grant.TheVariants as grant
use Rattle.tags.specs.declared.verdict.Verdict.TheVariants.{Free, Whole, Allocated}
use Rattle.ledger.specs.Ledger.{Entry, fresh, overwritten, as_granted}

-- ---- the words behind the buffer

-- the last four bytes
last : (p v : List ℕ) (at : ℕ) → length p ≡ at → length v ≡ 4 → part (p ++ v) at 4 ≡ v
last p v at e f = part_right p v at 0 4 (omega arith) ∙ part_all v 4 f

-- R0's bytes, R1, T0 and T1 of a chunk with a buffer of `size` bytes
pub record Ends (f : Format) (size : ℕ) (c zone : List ℕ) (r1 t0 t1 : ℕ) : Type 0 where
  pub long : length c ≡ size + 16
  pub zone_is : part c size 4 ≡ zone
  pub code_is : word_at f c (size + 4) ≡ r1
  pub first_is : word_at f c (size + 8) ≡ t0
  pub second_is : word_at f c (size + 12) ≡ t1

pub ends_chunk : (f : Format) (size : ℕ) (b : List ℕ) (r0 r1 t0 t1 : ℕ) → length b ≡ size → r1 < 4294967296 → t0 < 4294967296 → t1 < 4294967296
    → Ends f size (chunk_of f b r0 r1 t0 t1) (word_bytes f r0) r1 t0 t1
unfolding chunk_of number_at
ends_chunk f size b r0 r1 t0 t1 e h1 h2 h3 =
    let z0 = word_bytes f r0 in
    let z1 = word_bytes f r1 in
    let z2 = word_bytes f t0 in
    let z3 = word_bytes f t1 in
    let l1 : length (b ++ z0) ≡ size + 4 = simp (length-append, length_bytes_of) (omega arith) in
    let l2 : length (b ++ z0 ++ z1) ≡ size + 8 = simp (length-append, length_bytes_of) (omega arith) in
    let l3 : length (b ++ z0 ++ z1 ++ z2) ≡ size + 12 = simp (length-append, length_bytes_of) (omega arith) in
    record {
      long = simp (length-append, length_bytes_of) (omega arith);
      zone_is = part_left (b ++ z0 ++ z1 ++ z2) z3 size 4 (omega arith)
          ∙ part_left (b ++ z0 ++ z1) z2 size 4 (omega arith)
          ∙ part_left (b ++ z0) z1 size 4 (omega arith)
          ∙ last b z0 size e (length_bytes_of f.order 4 r0);
      code_is = ap (number f.order)
          (part_left (b ++ z0 ++ z1 ++ z2) z3 (size + 4) 4 (omega arith)
          ∙ part_left (b ++ z0 ++ z1) z2 (size + 4) 4 (omega arith)
          ∙ last (b ++ z0) z1 (size + 4) l1 (length_bytes_of f.order 4 r1))
          ∙ number_back f.order 4 r1 h1;
      first_is = ap (number f.order)
          (part_left (b ++ z0 ++ z1 ++ z2) z3 (size + 8) 4 (omega arith)
          ∙ last (b ++ z0 ++ z1) z2 (size + 8) l2 (length_bytes_of f.order 4 t0))
          ∙ number_back f.order 4 t0 h2;
      second_is = ap (number f.order) (last (b ++ z0 ++ z1 ++ z2) z3 (size + 12) l3 (length_bytes_of f.order 4 t1)) ∙ number_back f.order 4 t1 h3;
    }

module _ {f : Format} {size : ℕ} {c zone : List ℕ} {r1 t0 t1 : ℕ} (e : Ends f size c zone r1 t0 t1) where
  -- a run within the buffer leaves them as they are
  pub ends-within : (vs : List ℕ) (at : ℕ) → at + length vs ≤ size → Ends f size (sets c at vs) zone r1 t0 t1
  ends-within vs at h = record {
    long = length-sets c at vs ∙ e.long;
    zone_is = part-after vs c at size 4 h ∙ e.zone_is;
    code_is = number_at_outside f.order 4 vs c at (size + 4) (inr (omega arith)) ∙ e.code_is;
    first_is = number_at_outside f.order 4 vs c at (size + 8) (inr (omega arith)) ∙ e.first_is;
    second_is = number_at_outside f.order 4 vs c at (size + 12) (inr (omega arith)) ∙ e.second_is;
  }

  -- a byte behind the buffer is R0's first
  pub ends-guard : (v : ℕ) → Ends f size (set c size v) (set zone 0 v) r1 t0 t1
  ends-guard v =
      let one : size + length (v ∷ []) ≤ size + 4 = omega arith in
      record {
        long = length-set c size v ∙ e.long;
        zone_is = ap (λ (x : ℕ). part (sets c x (v ∷ [])) size 4) (sym (add-zero size))
            ∙ part_inside (v ∷ []) c size 4 0 (omega arith)
            ∙ ap (λ (x : List ℕ). set x 0 v) e.zone_is;
        code_is = number_at_outside f.order 4 (v ∷ []) c size (size + 4) (inr one) ∙ e.code_is;
        first_is = number_at_outside f.order 4 (v ∷ []) c size (size + 8) (inr (omega arith)) ∙ e.first_is;
        second_is = number_at_outside f.order 4 (v ∷ []) c size (size + 12) (inr (omega arith)) ∙ e.second_is;
      }

  size_is : length c - 16 ≡ size
  size_is = let l = e.long in omega arith

  -- ---- what they say

  pub tag_is : tag_at f c ≡ record { t0 = t0; t1 = t1 }
  unfolding tag_at
  tag_is = rw (size_is, e.first_is, e.second_is)

-- a whole grant
pub whole_sound : {f : Format} {size : ℕ} {c : List ℕ} {t0 t1 : ℕ} → Ends f size c (word_bytes f redzone) redzone t0 t1 → allocated_verdict f c ≡ Whole
unfolding allocated_verdict coded_verdict headed_verdict zone_verdict
whole_sound {f} e = rw (size_is e, e.code_is, e.zone_is, same_nowhere (word_bytes f redzone))

-- a grant of the coded size s
pub sized_sound : {f : Format} {size : ℕ} {c : List ℕ} {t0 t1 : ℕ} (s : ℕ) → Ends f size c (zone_after f s size) (code_of s) t0 t1
    → get_or c s 0 ≡ guard → header_right f c s ≡ true → 1 ≤ s → s ≤ size → code_of s ≢ redzone → allocated_verdict f c ≡ Allocated (request_of f.profile s)
unfolding allocated_verdict coded_verdict headed_verdict sized_verdict zone_verdict header_verdict
sized_sound {f} {size} s e g r h k ne =
    rw (size_is e, e.code_is, ne_eqb (code_of s) redzone ne, decode_code s size h k, size_is e, g, e.zone_is, same_nowhere (zone_after f s size), r)

-- the first bytes of a chunk are the buffer's
pub buffer-part : (f : Format) (b : List ℕ) (r0 r1 t0 t1 at k : ℕ) → at + k ≤ length b → part (chunk_of f b r0 r1 t0 t1) at k ≡ part b at k
unfolding chunk_of
buffer-part f b r0 r1 t0 t1 at k h =
    let z0 = word_bytes f r0 in
    let z1 = word_bytes f r1 in
    let z2 = word_bytes f t0 in
    part_left (b ++ z0 ++ z1 ++ z2) (word_bytes f t1) at k (simp (length-append, length_bytes_of) (omega arith))
    ∙ part_left (b ++ z0 ++ z1) z2 at k (simp (length-append, length_bytes_of) (omega arith))
    ∙ part_left (b ++ z0) z1 at k (simp (length-append, length_bytes_of) (omega arith))
    ∙ part_left b z0 at k (omega arith)

-- and then come R0 and R1
zones_part : (f : Format) (b : List ℕ) (r0 r1 t0 t1 size : ℕ) → length b ≡ size → part (chunk_of f b r0 r1 t0 t1) size 8 ≡ word_bytes f r0 ++ word_bytes f r1
unfolding chunk_of
zones_part f b r0 r1 t0 t1 size e =
    let z0 = word_bytes f r0 in
    let z1 = word_bytes f r1 in
    let z2 = word_bytes f t0 in
    part_left (b ++ z0 ++ z1 ++ z2) (word_bytes f t1) size 8 (simp (length-append, length_bytes_of) (omega arith))
    ∙ part_left (b ++ z0 ++ z1) z2 size 8 (simp (length-append, length_bytes_of) (omega arith))
    ∙ ap (λ (x : List ℕ). part x size 8) (append_assoc b z0 z1)
    ∙ part_right b (z0 ++ z1) size 0 8 (omega arith)
    ∙ part_all (z0 ++ z1) 8 (simp (length-append, length_bytes_of))

-- a free chunk
free_fill_lem : (f : Format) (size a : ℕ) → part (free_chunk f size a) 0 size ≡ repeated size (word_bytes f free_fill)
unfolding free_chunk
free_fill_lem f size a =
    let b = repeated size (word_bytes f free_fill) in
    let l : length b ≡ size = length-repeated size (word_bytes f free_fill) in
    buffer-part f b redzone redzone (tag_of a state.Free).t0 (tag_of a state.Free).t1 0 size (omega arith) ∙ part_all b size l

free_zone : (f : Format) (size a : ℕ) → part (free_chunk f size a) size 8 ≡ repeated 8 (word_bytes f redzone)
unfolding free_chunk
free_zone f size a =
    let fill = word_bytes f free_fill in
    zones_part f (repeated size fill) redzone redzone (tag_of a state.Free).t0 (tag_of a state.Free).t1 size (length-repeated size fill)
    ∙ sym (repeated_twice (word_bytes f redzone) (length_bytes_of f.order 4 redzone))

pub free_sound : (f : Format) (size a : ℕ) → free_verdict f (free_chunk f size a) ≡ Free
unfolding free_verdict
free_sound f size a =
    let l : length (free_chunk f size a) - 16 ≡ size = omega (arith, length-free_chunk f size a) in
    rw (
      l,
      free_fill_lem f size a,
      same_nowhere (repeated size (word_bytes f free_fill)),
      free_zone f size a,
      same_nowhere (repeated 8 (word_bytes f redzone)),
    )

-- ---- a chunk as the ledger has it

abbrev pub state_for : Option Entry → State
state_for None = state.Free
state_for (Some o) = state.Allocated

-- the chunk, with a record at the address a
abbrev pub chunk_for : Format → ℕ → ℕ → Option Entry → List ℕ
chunk_for f size a None = free_chunk f size a
chunk_for f size a (Some o) = sets (granted_chunk f size a o.grant) (client_offset f.profile o.grant) o.client

-- what is known of an entry
abbrev pub LawfulEntry : Profile → ℕ → Option Entry → Type 0
LawfulEntry p size None = Unit {0}
LawfulEntry p size (Some o) = (lawful_size p size o.grant ≡ true) × (length o.client ≡ grant_size size o.grant)

module _ (f : Format) (size a : ℕ) (few : size ≤ 4096) (word : a < 4294967296) where
  tag_word : (s : State) → (tag_of a s).t1 < 4294967296
  unfolding tag_of
  tag_word state.Free = xor_lt 32 a (state_word state.Free) word (lit< tt)
  tag_word state.Allocated = xor_lt 32 a (state_word state.Allocated) word (lit< tt)

  filled-ends : (fill r1 : ℕ) (s : State) → r1 < 4294967296
      → Ends f size (chunk_of f (repeated size (word_bytes f fill)) redzone r1 (tag_of a s).t0 (tag_of a s).t1)
      (word_bytes f redzone) r1 (tag_of a s).t0 (tag_of a s).t1
  unfolding tag_of
  filled-ends fill r1 s h =
      ends_chunk f size (repeated size (word_bytes f fill)) redzone r1 a (tag_of a s).t1 (length-repeated size (word_bytes f fill)) h word (tag_word s)

  pub free-ends : Ends f size (free_chunk f size a) (word_bytes f redzone) redzone (tag_of a state.Free).t0 (tag_of a state.Free).t1
  unfolding free_chunk
  free-ends = filled-ends free_fill redzone state.Free (lit< tt)

  pub whole-ends : Ends f size (granted_chunk f size a grant.Whole) (word_bytes f redzone) redzone (tag_of a state.Allocated).t0 (tag_of a state.Allocated).t1
  unfolding granted_chunk
  whole-ends = filled-ends grant_fill redzone state.Allocated (lit< tt)

  code-small : (s : ℕ) → s ≤ size → code_of s < 4294967296
  code-small s h = omega arith

  pub code_other : (s : ℕ) → s ≤ size → code_of s ≢ redzone
  code_other s h e = omega arith

  -- a chunk with the guard at s
  guarded_ends : (s : ℕ) → s ≤ size
      → Ends f size (guarded_chunk f size s (tag_of a state.Allocated))
      (zone_after f s size) (code_of s) (tag_of a state.Allocated).t0 (tag_of a state.Allocated).t1
  guarded_ends s h = go (ℕ_discrete s size)
    where
      base : Ends f size (filled_chunk f size grant_fill (code_of s) (tag_of a state.Allocated))
          (word_bytes f redzone) (code_of s) (tag_of a state.Allocated).t0 (tag_of a state.Allocated).t1
      base = filled-ends grant_fill (code_of s) state.Allocated (code-small s h)

      go : Dec (s ≡ size)
          → Ends f size (set (filled_chunk f size grant_fill (code_of s) (tag_of a state.Allocated)) s guard)
          (zone_after f s size) (code_of s) (tag_of a state.Allocated).t0 (tag_of a state.Allocated).t1
      go (yes e) = rw (eq-eqb s size e, e) (rw e at (ends-guard base guard))
      go (no ne) = rw (ne_eqb s size ne) (ends-within base (guard ∷ []) s (omega arith))

  -- and with the header before it, for a request
  pub sized_ends : (q : ℕ) → coded_size f.profile q ≤ size →
      let s = coded_size f.profile q in
      Ends f size (granted_chunk f size a (grant.Sized q)) (zone_after f s size) (code_of s) (tag_of a state.Allocated).t0 (tag_of a state.Allocated).t1
  unfolding granted_chunk
  sized_ends q h =
      let s = coded_size f.profile q in
      ends-within (guarded_ends s h) (header_bytes f s) 0 (omega (arith, length-header_bytes f s))

  -- the client's bytes over the chunk leave the tag
  pub granted-tag : (q : Grant) → lawful_size f.profile size q ≡ true → (vs : List ℕ) → length vs ≡ grant_size size q
      → tag_at f (sets (granted_chunk f size a q) (client_offset f.profile q) vs) ≡ tag_of a state.Allocated
  granted-tag grant.Whole l vs e = tag_is (ends-within whole-ends vs 0 (omega arith))
  granted-tag (grant.Sized q) l vs e =
      let w = lawful-within f.profile size q (grant.Sized q) refl l in
      tag_is (ends-within (sized_ends q w.1) vs (header_size f.profile) (omega (arith, w.1)))

  -- T0 and T1 are the record's
  pub tag_for : (o : Option Entry) → LawfulEntry f.profile size o → tag_at f (chunk_for f size a o) ≡ tag_of a (state_for o)
  tag_for None l = tag_is free-ends
  tag_for (Some o) l = granted-tag o.grant l.0 o.client l.1

  module _ (q : ℕ) (h : coded_size f.profile q ≤ size) (vs : List ℕ) (e : length vs ≡ q) where
    -- the request's coded size, the chunk but for its header, and with the client's bytes
    abbrev s : ℕ
    s = coded_size f.profile q

    abbrev base : List ℕ
    base = filled_chunk f size grant_fill (code_of s) (tag_of a state.Allocated)

    base_long : length base ≡ size + 16
    base_long = length_chunk_of f (repeated size (word_bytes f grant_fill)) _ _ _ _ ∙ ap (λ (x : ℕ). x + 16) (length-repeated size (word_bytes f grant_fill))

    abbrev with_client : List ℕ
    with_client = sets (sets (set base s guard) 0 (header_bytes f s)) (header_size f.profile) vs

    -- the guard stands
    guard_stands : get_or with_client s 0 ≡ guard
    guard_stands =
        ap (λ (x : ℕ). get_or with_client x 0) (sym (add-zero s))
        ∙ sym (get_or_part with_client s 1 0 (omega arith))
        ∙ ap (λ (x : List ℕ). get_or x 0 0)
        (part-after vs (sets (set base s guard) 0 (header_bytes f s)) (header_size f.profile) s 1 (omega arith)
        ∙ part-after (header_bytes f s) (set base s guard) 0 s 1 (omega (arith, length-header_bytes f s)))
        ∙ get_or_part (set base s guard) s 1 0 (omega arith)
        ∙ ap (λ (x : ℕ). get_or (set base s guard) x 0) (add-zero s)
        ∙ get_or-set_same base s guard 0 (omega (arith, base_long))

    -- and so does the header
    header_stands : 1 ≤ q → header_right f with_client s ≡ true
    header_stands least =
        right_written f with_client s
        (part-before vs (sets (set base s guard) 0 (header_bytes f s)) (header_size f.profile) 0 (header_size f.profile) (omega arith)
        ∙ part_written (set base s guard) (header_bytes f s) 0 (header_size f.profile) (length-header_bytes f s)
        (omega (arith, length-set base s guard, base_long)))
        (omega arith) (omega arith)

  -- found as granted
  pub granted_verdict : (q : Grant) → lawful_size f.profile size q ≡ true → (vs : List ℕ) → length vs ≡ grant_size size q
      → allocated_verdict f (sets (granted_chunk f size a q) (client_offset f.profile q) vs) ≡ as_granted q
  unfolding granted_chunk
  granted_verdict grant.Whole l vs e = whole_sound (ends-within whole-ends vs 0 (omega arith))
  granted_verdict (grant.Sized q) l vs e =
      let w = lawful-within f.profile size q (grant.Sized q) refl l in
      let s = coded_size f.profile q in
      let back : request_of f.profile s ≡ q = omega arith in
      sized_sound s (ends-within (sized_ends q w.1) vs (header_size f.profile) (omega (arith, w.1))) (guard_stands q w.1 vs e)
      (header_stands q w.1 vs e w.0) (omega (arith, w.0)) w.1 (code_other s w.1)
      ∙ ap Allocated back

-- a fresh entry
filled-part : (f : Format) (size a r1 at k : ℕ) → at % 4 ≡ 0 → at + k ≤ size
    → part (filled_chunk f size grant_fill r1 (tag_of a state.Allocated)) at k ≡ repeated k (word_bytes f grant_fill)
filled-part f size a r1 at k m h =
    let fill = word_bytes f grant_fill in
    buffer-part f (repeated size fill) redzone r1 (tag_of a state.Allocated).t0 (tag_of a state.Allocated).t1 at k
    (omega (arith, length-repeated size fill))
    ∙ part-repeated size at k fill m h

granted-part : (f : Format) (size a : ℕ) (q : Grant) → lawful_size f.profile size q ≡ true
    → part (granted_chunk f size a q) (client_offset f.profile q) (grant_size size q) ≡ repeated (grant_size size q) (word_bytes f grant_fill)
unfolding granted_chunk
granted-part f size a grant.Whole l = filled-part f size a redzone 0 size refl (omega arith)
granted-part f size a (grant.Sized q) l =
    let h = header_size f.profile in
    let s = coded_size f.profile q in
    let base = filled_chunk f size grant_fill (code_of s) (tag_of a state.Allocated) in
    part-after (header_bytes f s) (set base s guard) 0 h q (omega (arith, length-header_bytes f s))
    ∙ part-before (guard ∷ []) base s h q (omega arith)
    ∙ filled-part f size a (code_of s) h q (header_words f.profile) (omega (arith, (lawful-within f.profile size q (grant.Sized q) refl l).1))

pub fresh_chunk : (f : Format) (size a : ℕ) (q : Grant) → lawful_size f.profile size q ≡ true
    → granted_chunk f size a q ≡ chunk_for f size a (Some (fresh f size q))
fresh_chunk f size a q l =
    let at = client_offset f.profile q in
    sym (sets_same (granted_chunk f size a q) at (grant_size size q) (omega (arith, grant-within f.profile size q l, length-granted_chunk f size a q)))
    ∙ ap (λ (x : List ℕ). sets (granted_chunk f size a q) at x) (granted-part f size a q l)

pub fresh-lawful : (f : Format) (size : ℕ) (q : Grant) → lawful_size f.profile size q ≡ true → LawfulEntry f.profile size (Some (fresh f size q))
fresh-lawful f size q l = (l, length-repeated (grant_size size q) (word_bytes f grant_fill))

-- the client bytes
pub client-part : (f : Format) (size a : ℕ) (o : Entry) → LawfulEntry f.profile size (Some o)
    → part (chunk_for f size a (Some o)) (client_offset f.profile o.grant) (grant_size size o.grant) ≡ o.client
client-part f size a o l =
    part_written (granted_chunk f size a o.grant) o.client (client_offset f.profile o.grant) (grant_size size o.grant) l.1
    (omega (arith, grant-within f.profile size o.grant l.0, length-granted_chunk f size a o.grant))

-- a store into them
pub store_chunk : (f : Format) (size a offset : ℕ) (bytes : List ℕ) (o : Entry) → LawfulEntry f.profile size (Some o)
    → offset + length bytes ≤ grant_size size o.grant
    → sets (chunk_for f size a (Some o)) (client_offset f.profile o.grant + offset) bytes ≡ chunk_for f size a (overwritten offset bytes (Some o))
store_chunk f size a offset bytes o l h =
    sets_over (granted_chunk f size a o.grant) o.client bytes (client_offset f.profile o.grant) offset (omega (arith, l.1))
    (omega (arith, l.1, grant-within f.profile size o.grant l.0, length-granted_chunk f size a o.grant))

pub store-lawful : (p : Profile) (size offset : ℕ) (bytes : List ℕ) (o : Entry) → LawfulEntry p size (Some o)
    → LawfulEntry p size (overwritten offset bytes (Some o))
store-lawful p size offset bytes o l = (l.0, length-sets o.client offset bytes ∙ l.1)
