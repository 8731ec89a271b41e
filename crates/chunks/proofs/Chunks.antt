-- The laws of chunks, and what the steps of the code come to. Assumes nothing.
use Rattle.std.specs.Prelude.{Option, Some, None, Result, Ok, Err}
use Rattle.tags.specs.declared.size_code.BadCode.{BadCode}
use mathlib.Core.Path.{◌≡◌, refl, sym, ap, ◌∙◌}
use mathlib.Core.Logic.{◌≢◌}
use mathlib.Core.Bool.{Bool, true, false, and-eq-true_iff, cond}
use mathlib.Core.List.{List, ◌++◌}
use Prim.Native.Nat.{ℕ, ◌+◌, ◌≤◌}
use native.Mathlib.Omega.{arith}
use borrow.Author.Tests.{eq-eqb, ne_eqb, eqb-true, le-leb, leb-true}
use lib.Dec.{eqb, leb}
use lib.ListN.{length, get_or, length-append, length-set}
use lib.Seq.{sets, length-sets}
use Rattle.words.specs.Word.{part}
use Rattle.runs.specs.Run.{repeated, difference}
use Rattle.words.proofs.Numbers.{length_bytes_of}
use Rattle.words.proofs.Parts.{sets-next, sets-whole}
use Rattle.runs.proofs.Runs.{length-repeated}
use Rattle.tags.specs.Format.{word_bytes}
use Rattle.tags.specs.SizeCode.{decoded_of}
use Rattle.tags.specs.Verdict.{verdict_number, verdict_value, told_of}
use Rattle.tags.proofs.Tags.{decoded_within}
use Rattle.tags.proofs.Verdicts.{code_fault}
use Rattle.chunks.specs.Chunk.{redzone, guard, buffer_size, chunk_of, free_chunk, granted_chunk, lawful_size, grant_size, client_offset}
use Rattle.chunks.specs.Header.{coded_size, request_of, request_most, header_right}
use Rattle.chunks.proofs.Headers.{right_some}
use Rattle.chunks.specs.Judge.{by_difference, r1_of, by_decoded, zone_after}
use Rattle.chunks.specs.Judge.{zone_verdict, header_verdict, sized_verdict, coded_verdict, headed_verdict, allocated_verdict}
use Rattle.tags.specs.declared.format.Format.{Format}
use Rattle.tags.specs.declared.format.Profile.{Profile}
use Rattle.chunks.specs.declared.chunk.Grant.{Grant}
use Rattle.tags.specs.declared.verdict.Told.{Told}
use Rattle.tags.specs.declared.verdict.Verdict.{Verdict}
use Rattle.tags.specs.declared.verdict.Verdict.TheVariants.{Free, Whole, Allocated, Cached, NotOneRecord, BadTag, FreedTwice}
use Rattle.tags.specs.declared.verdict.Verdict.TheVariants.{OffChain, OnChain, BadFill, BadRedzone, BadSizeCode, Overrun, BadHeader}
use Rattle.chunks.specs.declared.chunk.Grant.TheVariants as grant

-- ---- a chunk is written

-- the fill and then four words are written one after the other over `l`
pub laid : (f : Format) (l s₀ s₁ s₂ s₃ s₄ w : List ℕ) (n r1 t0 t1 : ℕ) → length l ≡ n + 16 → s₀ ≡ sets l 0 (repeated n w)
    → s₁ ≡ sets s₀ n (word_bytes f redzone) → s₂ ≡ sets s₁ (n + 4) (word_bytes f r1) → s₃ ≡ sets s₂ (n + 8) (word_bytes f t0)
    → s₄ ≡ sets s₃ (n + 12) (word_bytes f t1) → s₄ ≡ chunk_of f (repeated n w) redzone r1 t0 t1
unfolding chunk_of
laid f l s₀ s₁ s₂ s₃ s₄ w n r1 t0 t1 el e₀ e₁ e₂ e₃ e₄ =
    let p₀ = repeated n w in
    let p₁ = p₀ ++ word_bytes f redzone in
    let p₂ = p₁ ++ word_bytes f r1 in
    let p₃ = p₂ ++ word_bytes f t0 in
    let f₁ = sets-next l p₀ (word_bytes f redzone) 0 n n e₀ (length-repeated n w) (omega arith) e₁ in
    let f₂ = sets-next l p₁ (word_bytes f r1) 0 (n + 4) (n + 4) f₁ (simp (length-append, length_bytes_of, length-repeated)) (omega arith) e₂ in
    let f₃ = sets-next l p₂ (word_bytes f t0) 0 (n + 8) (n + 8) f₂ (simp (length-append, length_bytes_of, length-repeated) (omega arith)) (omega arith) e₃ in
    let f₄ = sets-next l p₃ (word_bytes f t1) 0 (n + 12) (n + 12) f₃ (simp (length-append, length_bytes_of, length-repeated) (omega arith)) (omega arith) e₄ in
    f₄ ∙ sets-whole l (p₃ ++ word_bytes f t1) (simp (length-append, length_bytes_of, length-repeated) (omega arith))

pub length_chunk_of : (f : Format) (b : List ℕ) (r0 r1 t0 t1 : ℕ) → length (chunk_of f b r0 r1 t0 t1) ≡ length b + 16
unfolding chunk_of
length_chunk_of f b r0 r1 t0 t1 = simp (length-append, length_bytes_of) (omega arith)

pub length-free_chunk : (f : Format) (size a : ℕ) → length (free_chunk f size a) ≡ size + 16
unfolding free_chunk
length-free_chunk f size a = simp (length_chunk_of, length-repeated)

pub length-granted_chunk : (f : Format) (size a : ℕ) (g : Grant) → length (granted_chunk f size a g) ≡ size + 16
unfolding granted_chunk
length-granted_chunk f size a grant.Whole = simp (length_chunk_of, length-repeated)
length-granted_chunk f size a (grant.Sized q) = simp (length-sets, length-set, length_chunk_of, length-repeated)

-- a request is lawful exactly where it is some byte, and its coded size is one of the buffer's
pub lawful-within : (p : Profile) (size q : ℕ) (g : Grant) → g ≡ grant.Sized q → lawful_size p size g ≡ true → (1 ≤ q) × (coded_size p q ≤ size)
lawful-within p size q g e l =
    let both = (and-eq-true_iff (leb 1 q) (leb q (request_most p size))).0 (rw e at l) in
    let least = leb-true 1 q both.0 in
    let most = leb-true q (request_most p size) both.1 in
    (least, omega arith)

pub within-lawful : (p : Profile) (size q : ℕ) → 1 ≤ q → coded_size p q ≤ size → lawful_size p size (grant.Sized q) ≡ true
within-lawful p size q least most = rw (le-leb 1 q least, le-leb q (request_most p size) (omega arith))

-- the client's bytes of a lawful grant lie in the buffer
pub grant-within : (p : Profile) (size : ℕ) (q : Grant) → lawful_size p size q ≡ true → client_offset p q + grant_size size q ≤ size
grant-within p size grant.Whole l = omega arith
grant-within p size (grant.Sized q) l = omega (arith, (lawful-within p size q (grant.Sized q) refl l).1)

-- ---- a chunk is judged

-- R0 is compared with what it should be
pub zone_at : (c zone : List ℕ) (o : ℕ) (v : Verdict) (d : Option ℕ) → d ≡ difference (part c (buffer_size c) 4) zone → d ≡ Some o
    → Overrun (buffer_size c + o) ≡ zone_verdict c zone v
unfolding zone_verdict
zone_at c zone o v d e g = rw (← e, g)

pub zone_sound : (c zone : List ℕ) (v : Verdict) (d : Option ℕ) → d ≡ difference (part c (buffer_size c) 4) zone → d ≡ None
    → v ≡ zone_verdict c zone v
unfolding zone_verdict
zone_sound c zone v d e g = rw (← e, g)

-- the header is judged where the number told is 2, and only there
pub headed_two : (f : Format) (c : List ℕ) (v : Verdict) (t : Told) → t ≡ told_of v → t.number ≡ 2 → header_verdict f c t.value ≡ headed_verdict f c v
unfolding headed_verdict
headed_two f c v t e n = rw (e, eq-eqb (verdict_number v) 2 (sym (ap (λ (x : Told). x.number) e) ∙ n))

pub headed_other : (f : Format) (c : List ℕ) (v : Verdict) (t : Told) → t ≡ told_of v → t.number ≢ 2 → t ≡ told_of (headed_verdict f c v)
unfolding headed_verdict
headed_other f c v t e n = rw (ne_eqb (verdict_number v) 2 (λ z. n (ap (λ (x : Told). x.number) e ∙ z))) e

-- a verdict of so many bytes allocated is one of the buffer's sizes
zone_within : (c zone : List ℕ) (v : Verdict) (s : ℕ) → zone_verdict c zone v ≡ Allocated s → v ≡ Allocated s
unfolding zone_verdict
zone_within c zone v s e = go (difference (part c (buffer_size c) 4) zone) e
  where
    go : (d : Option ℕ) → by_difference d (λ o. Overrun (buffer_size c + o)) v ≡ Allocated s → v ≡ Allocated s
    go (Some o) f = absurd (let z : ◌≡◌ {A = ℕ} 0 1 = cc in omega arith)
    go None f = f

-- the header's verdict of so many bytes allocated is one on a coded size that has them behind its header
header_within : (f : Format) (c : List ℕ) (k q : ℕ) → header_verdict f c k ≡ Allocated q → 1 ≤ k → (1 ≤ q) × (coded_size f.profile q ≡ k)
unfolding header_verdict
header_within f c k q e some = go (header_right f c k) refl e
  where
    go : (b : Bool) → header_right f c k ≡ b → cond b (Allocated (request_of f.profile k)) BadHeader ≡ Allocated q
        → (1 ≤ q) × (coded_size f.profile q ≡ k)
    go true t g = let z : request_of f.profile k ≡ q = cc in let h = right_some f c k some t in (omega arith, omega arith)
    go false t g = absurd (let z : ◌≡◌ {A = ℕ} 0 1 = cc in omega arith)

-- a verdict of so many bytes allocated by all but the header is one of the buffer's sizes
coded_within : (f : Format) (c : List ℕ) (s : ℕ) → coded_verdict f c ≡ Allocated s → (1 ≤ s) × (s ≤ buffer_size c)
unfolding coded_verdict sized_verdict
coded_within f c s e = go (eqb (r1_of f c) redzone) (decoded_of (r1_of f c) (buffer_size c)) refl e
  where
    sized : (k : ℕ) (b : Bool) → cond b (zone_verdict c (zone_after f k (buffer_size c)) (Allocated k)) (Overrun k) ≡ Allocated s → k ≡ s
    sized k true g = let z = zone_within c (zone_after f k (buffer_size c)) (Allocated k) s g in cc
    sized k false g = absurd (let z : ◌≡◌ {A = ℕ} 0 1 = cc in omega arith)

    go : (b : Bool) (d : Result ℕ BadCode) → decoded_of (r1_of f c) (buffer_size c) ≡ d
        → cond b (zone_verdict c (word_bytes f redzone) Whole) (by_decoded d (λ k.
        cond (eqb (get_or c k 0) guard) (zone_verdict c (zone_after f k (buffer_size c)) (Allocated k)) (Overrun k)) BadSizeCode) ≡ Allocated s
        → (1 ≤ s) × (s ≤ buffer_size c)
    go true d q g = absurd (let w = zone_within c (word_bytes f redzone) Whole s g in let z : ◌≡◌ {A = ℕ} 0 1 = cc in omega arith)
    go false (Ok k) q g = let z : k ≡ s = sized k (eqb (get_or c k 0) guard) g in decoded_within (r1_of f c) (buffer_size c) s (q ∙ ap Ok z)
    go false (Err how) q g = absurd (let z : ◌≡◌ {A = ℕ} 0 1 = cc in omega arith)

-- the verdict of number 2 is the one of so many bytes allocated
allocated_two : (v : Verdict) → verdict_number v ≡ 2 → v ≡ Allocated (verdict_value v)
allocated_two Free e = absurd (omega arith)
allocated_two Whole e = absurd (omega arith)
allocated_two (Allocated s) e = refl
allocated_two Cached e = absurd (omega arith)
allocated_two NotOneRecord e = absurd (omega arith)
allocated_two BadTag e = absurd (omega arith)
allocated_two FreedTwice e = absurd (omega arith)
allocated_two OffChain e = absurd (omega arith)
allocated_two OnChain e = absurd (omega arith)
allocated_two (BadFill o) e = absurd (omega arith)
allocated_two (BadRedzone o) e = absurd (omega arith)
allocated_two (BadSizeCode how) e = absurd (omega (arith, (code_fault how).0))
allocated_two (Overrun o) e = absurd (omega arith)
allocated_two BadHeader e = absurd (omega arith)

pub allocated_within : (f : Format) (c : List ℕ) (q : ℕ) → allocated_verdict f c ≡ Allocated q → lawful_size f.profile (buffer_size c) (grant.Sized q) ≡ true
unfolding allocated_verdict headed_verdict
allocated_within f c q e = go (coded_verdict f c) (eqb (verdict_number (coded_verdict f c)) 2) refl refl e
  where
    go : (v : Verdict) (b : Bool) → coded_verdict f c ≡ v → eqb (verdict_number v) 2 ≡ b → cond b (header_verdict f c (verdict_value v)) v ≡ Allocated q
        → lawful_size f.profile (buffer_size c) (grant.Sized q) ≡ true
    go v true d t g =
        let w = coded_within f c (verdict_value v) (d ∙ allocated_two v (eqb-true _ _ t)) in
        let h = header_within f c (verdict_value v) q g w.0 in
        within-lawful f.profile (buffer_size c) q h.0 (omega (arith, h.1, w.1))
    go v false d t g = absurd (let n = eq-eqb (verdict_number v) 2 (ap verdict_number g) in let z : ◌≡◌ {A = ℕ} 0 1 = cc in omega arith)
