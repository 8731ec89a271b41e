-- The verdict on one chunk: the rules that speak of the chunk's own bytes, in their order (J3, J4, J5). Assumes nothing.
use Rattle.std.specs.Prelude.{cond, List, ℕ, ◌+◌, eqb, get_or, set, Option, Some, None, Result, Ok, Err}
use Rattle.words.specs.Word.{part}
use Rattle.runs.specs.Run.{repeated, difference}
use Rattle.chunks.specs.Chunk.{redzone, free_fill, guard, buffer_size}
use Rattle.chunks.specs.Header.{request_of, header_right}
use Rattle.tags.specs.Format.{word_bytes, word_at}
use Rattle.tags.specs.SizeCode.{decoded_of}
use Rattle.tags.specs.Verdict.{verdict_number, verdict_value}
use Rattle.tags.specs.declared.format.Format.{Format}
use Rattle.tags.specs.declared.size_code.BadCode.{BadCode}
use Rattle.tags.specs.declared.verdict.Verdict.{Verdict}
use Rattle.tags.specs.declared.verdict.Verdict.TheVariants.{Free, Whole, Allocated, BadFill, BadRedzone, BadSizeCode, Overrun, BadHeader}

-- J7 (the first byte that differs): by where two runs differ, if they do
abbrev pub by_difference : Option ℕ → (ℕ → Verdict) → Verdict → Verdict
by_difference (Some o) f v = f o
by_difference None f v = v

-- C1 (R1 of a chunk)
abbrev pub r1_of : Format → List ℕ → ℕ
r1_of f c = word_at f c (buffer_size c + 4)

-- J3 (free pattern): V25 (fill), V26 (redzone), else V0
unfoldable pub free_verdict : Format → List ℕ → Verdict
free_verdict f c =
    by_difference (difference (part c 0 (buffer_size c)) (repeated (buffer_size c) (word_bytes f free_fill))) BadFill
    (by_difference (difference (part c (buffer_size c) 8) (repeated 8 (word_bytes f redzone))) (λ o. BadRedzone (buffer_size c + o))
    Free)

-- V28 (R0 is not as the grant left it), at the first byte that differs; else another verdict
unfoldable pub zone_verdict : List ℕ → List ℕ → Verdict → Verdict
zone_verdict c zone sound = by_difference (difference (part c (buffer_size c) 4) zone) (λ o. Overrun (buffer_size c + o)) sound

-- C8 (R0 after a grant of the coded size s: bb first when s is buffer size)
abbrev pub zone_after : Format → ℕ → ℕ → List ℕ
zone_after f s size = cond (eqb s size) (set (word_bytes f redzone) 0 guard) (word_bytes f redzone)

-- J5 (R1 is the code of s): V28 at s (guard), V28 (R0), else V2 with the coded size, which V30 is still to judge; J6 (no other byte is judged)
unfoldable pub sized_verdict : Format → List ℕ → ℕ → Verdict
sized_verdict f c s = cond (eqb (get_or c s 0) guard) (zone_verdict c (zone_after f s (buffer_size c)) (Allocated s)) (Overrun s)

-- by what a code says: its size, or how it is bad
abbrev pub by_decoded : Result ℕ BadCode → (ℕ → Verdict) → (BadCode → Verdict) → Verdict
by_decoded (Ok s) f bad = f s
by_decoded (Err how) f bad = bad how

-- J4 (allocated pattern, R1 is 0xfeedface): V28 (R0), else V1; J5 (any other R1): V27, V31, V32 (how it is no size code), or what J5 has for its s
unfoldable pub coded_verdict : Format → List ℕ → Verdict
coded_verdict f c =
    cond (eqb (r1_of f c) redzone) (zone_verdict c (word_bytes f redzone) Whole)
    (by_decoded (decoded_of (r1_of f c) (buffer_size c)) (sized_verdict f c) BadSizeCode)

-- V30 (the header of the coded size s is wrong), else V2 with the request
unfoldable pub header_verdict : Format → List ℕ → ℕ → Verdict
header_verdict f c s = cond (header_right f c s) (Allocated (request_of f.profile s)) BadHeader

-- V30 comes after V28 and before V2: where all but the header gives V2 with a coded size, the header is judged; any other verdict stays
unfoldable pub headed_verdict : Format → List ℕ → Verdict → Verdict
headed_verdict f c v = cond (eqb (verdict_number v) 2) (header_verdict f c (verdict_value v)) v

-- J4, J5 (allocated pattern): all but the header, and then V30 (header)
unfoldable pub allocated_verdict : Format → List ℕ → Verdict
allocated_verdict f c = headed_verdict f c (coded_verdict f c)
