-- The value of a verdict, a size or an offset, is small: no verdict speaks of a byte behind the redzone. Assumes nothing.
use Rattle.std.specs.Prelude.{Option, Some, None, Result, Ok, Err}
use Rattle.tags.specs.declared.size_code.BadCode.{BadCode}
use mathlib.Core.Path.{◌≡◌, refl}
use mathlib.Core.Bool.{Bool, ◌&&◌, not}
use mathlib.Core.List.{List}
use Prim.Native.Nat.{ℕ, ◌+◌, ◌≤◌, ◌<◌}
use native.Mathlib.Omega.{arith}
use lib.Dec.{eqb}
use lib.ListN.{length, get_or, drop, length-take}
use Rattle.words.specs.Word.{part}
use Rattle.runs.specs.Run.{repeated, difference}
use Rattle.runs.proofs.Runs.{differs_within}
use Rattle.words.proofs.Tests.{by_test}
use Rattle.tags.specs.Format.{word_bytes}
use Rattle.tags.specs.SizeCode.{decoded_of}
use Rattle.tags.specs.Tag.{pattern_of, is_neither, is_free, is_allocated}
use Rattle.tags.specs.Verdict.{verdict_number, verdict_value, is_found_free}
use Rattle.tags.specs.declared.format.Format.{Format}
use Rattle.tags.specs.declared.tag.Pattern.{Pattern}
use Rattle.tags.specs.declared.verdict.Verdict.{Verdict}
use Rattle.tags.specs.declared.verdict.Verdict.TheVariants.{Free, Whole, Allocated, NotOneRecord, BadFill, BadRedzone, BadSizeCode, Overrun}
use Rattle.tags.proofs.Tags.{decoded_within}
use Rattle.chunks.specs.Chunk.{buffer_size, free_fill, redzone, guard, tag_at}
use Rattle.chunks.specs.Header.{header_right}
use Rattle.chunks.specs.Judge.{by_difference, by_decoded, r1_of, zone_after, free_verdict}
use Rattle.chunks.specs.Judge.{zone_verdict, sized_verdict, coded_verdict, header_verdict, headed_verdict, allocated_verdict}
use Rattle.geometry.specs.Sheet.{chunk_place, record_address}
use Rattle.sheet.specs.Areas.{Image, chunk_at}
use Rattle.chain.specs.Pairing.{own_of, by_own}
use Rattle.verdicts.specs.Judge.{is_listed, is_freed_twice, is_at_rest, rest_verdict, chained_verdict, owned_verdict, standing_of, verdict_of}
use Rattle.verdicts.specs.declared.judge.Standing.{Standing}

part-most : (l : List ℕ) (at len : ℕ) → length (part l at len) ≤ len
unfolding part
part-most l at len = omega (arith, length-take len (drop at l))

-- ---- one chunk

-- a size, or an offset before the tag
abbrev Small : List ℕ → Verdict → Type 0
Small c v = verdict_value v ≤ buffer_size c + 8

-- where two runs differ, the place is one of the first run
differing : (P : Verdict → Type 0) (xs ys : List ℕ) (f : ℕ → Verdict) (v : Verdict) → ((o : ℕ) → o < length xs → P (f o)) → P v
    → P (by_difference (difference xs ys) f v)
differing P xs ys f v h p = go (difference xs ys) refl
  where
    go : (d : Option ℕ) → difference xs ys ≡ d → P (by_difference d f v)
    go (Some o) e = h o (differs_within xs ys o e)
    go None e = p

zone_small : (c zone : List ℕ) (v : Verdict) → Small c v → Small c (zone_verdict c zone v)
unfolding zone_verdict
zone_small c zone v p =
    differing (Small c) (part c (buffer_size c) 4) zone (λ o. Overrun (buffer_size c + o)) v (λ o h. omega (arith, part-most c (buffer_size c) 4)) p

module _ (f : Format) (c : List ℕ) where
  free-small : Small c (free_verdict f c)
  unfolding free_verdict
  free-small =
      differing (Small c) (part c 0 (buffer_size c)) (repeated (buffer_size c) (word_bytes f free_fill)) BadFill _
      (λ o h. omega (arith, part-most c 0 (buffer_size c)))
      (differing (Small c) (part c (buffer_size c) 8) (repeated 8 (word_bytes f redzone)) (λ o. BadRedzone (buffer_size c + o)) Free
      (λ o h. omega (arith, part-most c (buffer_size c) 8)) (omega arith))

  sized_small : (s : ℕ) → s ≤ buffer_size c → Small c (sized_verdict f c s)
  unfolding sized_verdict
  sized_small s h =
      by_test (Small c) (eqb (get_or c s 0) guard)
      (λ _. zone_small c (zone_after f s (buffer_size c)) (Allocated s) (omega arith)) (λ _. omega arith)

  coded_small : Small c (coded_verdict f c)
  unfolding coded_verdict
  coded_small =
      by_test (Small c) (eqb (r1_of f c) redzone)
      (λ _. zone_small c (word_bytes f redzone) Whole (omega arith)) (λ _. go (decoded_of (r1_of f c) (buffer_size c)) refl)
    where
      go : (d : Result ℕ BadCode) → decoded_of (r1_of f c) (buffer_size c) ≡ d → Small c (by_decoded d (sized_verdict f c) BadSizeCode)
      go (Ok s) e = sized_small s (decoded_within (r1_of f c) (buffer_size c) s e).1
      go (Err how) e = omega arith

  -- a request is no more than its coded size
  header_small : (s : ℕ) → s ≤ buffer_size c + 8 → Small c (header_verdict f c s)
  unfolding header_verdict
  header_small s h = by_test (Small c) (header_right f c s) (λ _. omega arith) (λ _. omega arith)

  allocated_small : Small c (allocated_verdict f c)
  unfolding allocated_verdict headed_verdict
  allocated_small =
      by_test (Small c) (eqb (verdict_number (coded_verdict f c)) 2) (λ _. header_small (verdict_value (coded_verdict f c)) coded_small) (λ _. coded_small)

  rest-small : (listed : Bool) → Small c (rest_verdict listed (free_verdict f c))
  unfolding rest_verdict
  rest-small listed = by_test (Small c) (listed && is_found_free (verdict_number (free_verdict f c))) (λ _. omega arith) (λ _. free-small)

  -- ---- one buffer

  chained_small : (p : Pattern) (s : Standing) → Small c (chained_verdict f c p s)
  unfolding chained_verdict
  chained_small p s =
      by_test (Small c) (is_neither p) (λ _. omega arith)
      (λ _. by_test (Small c) (is_freed_twice s) (λ _. omega arith)
      (λ _. by_test (Small c) (is_free p && not (is_at_rest s)) (λ _. omega arith)
      (λ _. by_test (Small c) (is_allocated p && is_at_rest s) (λ _. omega arith)
      (λ _. by_test (Small c) (is_free p) (λ _. rest-small (is_listed s)) (λ _. allocated_small)))))

  owned-small : (a : ℕ) (s : Standing) → Small c (owned_verdict f c a s)
  unfolding owned_verdict
  owned-small a s = by_test (Small c) (eqb (tag_at f c).t0 a) (λ _. chained_small (pattern_of (tag_at f c)) s) (λ _. omega arith)

pub value_small : (m : Image) (i : ℕ) → verdict_value (verdict_of m i) ≤ m.sheet.chunk + 8
unfolding verdict_of
value_small m i = go (own_of m i)
  where
    go : (o : Option ℕ)
        → verdict_value (by_own o (λ j. owned_verdict m.sheet.format (chunk_at m i) (record_address m.sheet j) (standing_of m i j)) NotOneRecord)
        ≤ m.sheet.chunk + 8
    go (Some j) =
        omega (
          arith,
          owned-small m.sheet.format (chunk_at m i) (record_address m.sheet j) (standing_of m i j),
          part-most m.heap (chunk_place m.sheet i) m.sheet.chunk,
        )
    go None = omega arith
