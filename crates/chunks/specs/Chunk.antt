-- A chunk: its parts, and its bytes when it is free and when it is granted. Assumes nothing.
use Rattle.std.specs.Prelude.{◌≡◌, Bool, true, ◌&&◌, List, ◌++◌, ℕ, ◌+◌, ◌-◌, ◌%◌, ◌≤◌, leb, length, set}
use Rattle.std.proofs.lemmas.List.Edits.{sets}
use Rattle.runs.specs.Run.{repeated}
use Rattle.tags.specs.Format.{word_bytes, word_at}
use Rattle.tags.specs.SizeCode.{code_of}
use Rattle.tags.specs.Tag.{tag_of}
use Rattle.tags.specs.declared.format.Format.{Format}
use Rattle.tags.specs.declared.format.Profile.{Profile}
use Rattle.tags.specs.declared.tag.Tag.{Tag}
use Rattle.tags.specs.declared.tag.State.TheVariants as state
use Rattle.chunks.specs.Header.{header_size, coded_size, request_most, header_bytes}
use Rattle.chunks.specs.declared.chunk.Grant.{Grant}
use Rattle.chunks.specs.declared.chunk.Grant.TheVariants.{Whole, Sized}

-- C4 (redzone words, free fill), C6 (grant fill), C7 (guard)
abbrev pub redzone : ℕ
redzone = 0xfeedface

abbrev pub free_fill : ℕ
free_fill = 0xdeadbeef

abbrev pub grant_fill : ℕ
grant_fill = 0xbaddcafe

abbrev pub guard : ℕ
guard = 0xbb

-- S3, S4 (buffer size and chunk size)
pub record ChunkLength (n : ℕ) : Type 0 where
  pub least : 24 ≤ n
  pub most : n ≤ 4112
  pub eights : n % 8 ≡ 0

-- S4 (the size of a chunk's buffer)
abbrev pub buffer_size : List ℕ → ℕ
buffer_size c = length c - 16

-- C1 (buffer, R0, R1, T0, T1)
unfoldable pub chunk_of : Format → List ℕ → ℕ → ℕ → ℕ → ℕ → List ℕ
chunk_of f buffer r0 r1 t0 t1 = buffer ++ word_bytes f r0 ++ word_bytes f r1 ++ word_bytes f t0 ++ word_bytes f t1

-- C5, U5 (a grant is whole, or of 1 to the largest request): a request that X6 does not fit
abbrev pub lawful_size : Profile → ℕ → Grant → Bool
lawful_size p size Whole = true
lawful_size p size (Sized q) = leb 1 q && leb q (request_most p size)

-- C5 (how many the client's bytes are) in a buffer of `size` bytes
abbrev pub grant_size : ℕ → Grant → ℕ
grant_size size Whole = size
grant_size size (Sized q) = q

-- C5, U7 (where the client's bytes start in the buffer): behind the header, which a whole grant does not have
abbrev pub client_offset : Profile → Grant → ℕ
client_offset p Whole = 0
client_offset p (Sized q) = header_size p

-- a chunk with a fill, R1 and a tag; R0 is as laid down
abbrev pub filled_chunk : Format → ℕ → ℕ → ℕ → Tag → List ℕ
filled_chunk f size fill r1 t = chunk_of f (repeated size (word_bytes f fill)) redzone r1 t.t0 t.t1

-- C4 (a free chunk)
unfoldable pub free_chunk : Format → ℕ → ℕ → List ℕ
free_chunk f size a = filled_chunk f size free_fill redzone (tag_of a state.Free)

-- C7 (a grant of the coded size c: size code, and guard at c), C8 (with c equal to buffer size the guard is R0's first byte)
abbrev pub guarded_chunk : Format → ℕ → ℕ → Tag → List ℕ
guarded_chunk f size c t = set (filled_chunk f size grant_fill (code_of c) t) c guard

-- C6 (a chunk granted whole), C7, U4 (a chunk of a request, by its coded size), U6 (and the header)
unfoldable pub granted_chunk : Format → ℕ → ℕ → Grant → List ℕ
granted_chunk f size a Whole = filled_chunk f size grant_fill redzone (tag_of a state.Allocated)
granted_chunk f size a (Sized q) =
    sets (guarded_chunk f size (coded_size f.profile q) (tag_of a state.Allocated)) 0 (header_bytes f (coded_size f.profile q))

-- C1 (T0 and T1 of a chunk)
unfoldable pub tag_at : Format → List ℕ → Tag
tag_at f c = record { t0 = word_at f c (buffer_size c + 8); t1 = word_at f c (buffer_size c + 12) }
