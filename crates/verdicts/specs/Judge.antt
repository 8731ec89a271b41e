-- The verdict on a buffer: J2 (the first rule that holds). Assumes nothing.
use Rattle.std.specs.Prelude.{Bool, false, ◌&&◌, ◌||◌, not, cond, List, [], ◌∷◌, ℕ, ◌+◌, eqb, leb}
use Rattle.words.specs.Word.{flat}
use Rattle.tags.specs.Tag.{pattern_of, is_free, is_allocated, is_neither}
use Rattle.tags.specs.Verdict.{verdict_number, told_of, is_found_free}
use Rattle.chunks.specs.Chunk.{tag_at}
use Rattle.chunks.specs.Judge.{free_verdict, allocated_verdict}
use Rattle.tags.specs.declared.format.Format.{Format}
use Rattle.tags.specs.declared.tag.Pattern.{Pattern}
use Rattle.tags.specs.declared.verdict.Told.{Told}
use Rattle.tags.specs.declared.verdict.Verdict.{Verdict}
use Rattle.tags.specs.declared.verdict.Verdict.TheVariants.{Cached, NotOneRecord, BadTag, FreedTwice, OffChain, OnChain}
use Rattle.geometry.specs.Sheet.{record_address}
use Rattle.geometry.specs.Limits.{count_most}
use Rattle.sheet.specs.Areas.{Image, chunk_at}
use Rattle.chain.specs.Chain.{chain_of, met_by}
use Rattle.chain.specs.Pairing.{own_of, by_own}
use Rattle.chain.specs.Magazines.{listed_of}
use Rattle.tags.specs.declared.ending.Ending.{Ending}
use Rattle.tags.specs.declared.ending.Ending.TheVariants.{End, Broken, Again}
use Rattle.verdicts.specs.declared.judge.Standing.{Standing}

-- what the chain says of a buffer's own record, that it is met or not and that the chain is "again" at it or not; and how often the buffer is listed
abbrev pub standing : Bool → Bool → ℕ → Standing
standing met again listed = record { met = met; again = again; listed = listed }

-- M2 (listed, at all)
abbrev pub is_listed : Standing → Bool
is_listed s = not (eqb s.listed 0)

-- V22 (freed twice): the chain is "again" at its record, or it is listed twice or more, or listed and on the chain
unfoldable pub is_freed_twice : Standing → Bool
is_freed_twice s = s.again || leb 2 s.listed || is_listed s && s.met

-- M3 (at rest: on the chain or listed)
unfoldable pub is_at_rest : Standing → Bool
is_at_rest s = s.met || is_listed s

-- V3 (cached): a listed buffer where one on the chain is V0
unfoldable pub rest_verdict : Bool → Verdict → Verdict
rest_verdict listed v = cond (listed && is_found_free (verdict_number v)) Cached v

-- V21 (neither pattern) and the rules after it, for the pattern p of the chunk c
unfoldable pub chained_verdict : Format → List ℕ → Pattern → Standing → Verdict
chained_verdict f c p s =
    cond (is_neither p) BadTag
    -- V22 (freed twice)
    (cond (is_freed_twice s) FreedTwice
    -- V23 (free, and neither on the chain nor listed)
    (cond (is_free p && not (is_at_rest s)) OffChain
    -- V24 (allocated, and on the chain or listed)
    (cond (is_allocated p && is_at_rest s) OnChain
    -- J3: V25, V26, and then V3 where it is listed, else V0; J4, J5: V27, V28, V1, V2
    (cond (is_free p) (rest_verdict (is_listed s) (free_verdict f c)) (allocated_verdict f c)))))

-- V21 (T0 is not the own record's address), for a record at the address a
unfoldable pub owned_verdict : Format → List ℕ → ℕ → Standing → Verdict
owned_verdict f c a s = cond (eqb (tag_at f c).t0 a) (chained_verdict f c (pattern_of (tag_at f c)) s) BadTag

-- H4 (the chain is "again" at record j)
abbrev pub again_at : Ending → ℕ → Bool
again_at End j = false
again_at Broken j = false
again_at (Again i) j = eqb i j

-- H4 (the record that the chain is "again" at), else the number of buffers at most, which is no record's index
abbrev pub again_index : Ending → ℕ
again_index End = count_most
again_index Broken = count_most
again_index (Again i) = i

-- H4, H5, M2 (what the chain says of record j, and the list of buffer i)
abbrev pub standing_of : Image → ℕ → ℕ → Standing
standing_of m i j = standing (met_by (chain_of m) j) (again_at (chain_of m).ending j) (listed_of m i)

-- J2 (the verdict on buffer i of an image): V20 (not exactly one record names it), and the rules after it
unfoldable pub verdict_of : Image → ℕ → Verdict
verdict_of m i =
    by_own (own_of m i) (λ j. owned_verdict m.sheet.format (chunk_at m i) (record_address m.sheet j) (standing_of m i j)) NotOneRecord

-- K12 (findings as numbers): the index, the verdict's number, and its size or offset, else 0
abbrev pub row_of : ℕ → Told → List ℕ
row_of i t = i ∷ t.number ∷ t.value ∷ []

-- K12 (three for each buffer): those of n buffers from one on
abbrev pub rows_of : Image → ℕ → ℕ → List ℕ
rows_of m from n = flat n (λ k. row_of (from + k) (told_of (verdict_of m (from + k))))
