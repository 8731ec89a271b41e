-- Where the client's bytes of a buffer that is held start, and how many they are. Assumes nothing.
use Rattle.std.specs.Prelude.{ℕ, ◌+◌}
use Rattle.chunks.specs.Chunk.{grant_size, client_offset}
use Rattle.places.specs.Spot.{chunk_start}
use Rattle.held.specs.declared.Holding.{Holding}

-- C5, U7 (where the client's own bytes start in the buffer)
abbrev pub client_start : Holding → ℕ
client_start p = client_offset p.spot.sheet.format.profile p.grant

-- C5 (where they start in the heap)
abbrev pub client_at : Holding → ℕ
client_at p = chunk_start p.spot + client_start p

-- C5 (how many bytes of its buffer a client has)
abbrev pub client_size : Holding → ℕ
client_size p = grant_size p.spot.sheet.size p.grant
