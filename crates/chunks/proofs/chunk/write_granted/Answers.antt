-- A whole grant is the fill, both redzone words and the allocated tag; a request has the code and the guard of its coded size, and then the header.
-- Assumes nothing.
use Prim.Native.Nat.{◌≤◌}
use native.Mathlib.Omega.{arith}
use borrow.Author.Rules.{rules}
use Rattle.chunks.specs.Chunk.{buffer_size, granted_chunk}
use Rattle.chunks.specs.Header.{coded_size}
use Rattle.chunks.proofs.Chunks.{lawful-within}
use Rattle.chunks.proofs.chunk.write_granted.Goals.{In-Sized}
use Rattle.chunks.proofs.chunk.write_granted.Goals as goal

-- the coded size of the request is one of the buffer's
lawful : (c : In-Sized) → coded_size c.args.f.profile c.in-Sized.q ≤ buffer_size c.args.chunk.now
lawful c = (lawful-within _ _ _ _ c.in-Sized.is c.requires.grant_value).1

pub coded-c-requires : goal.coded-c-requires
coded-c-requires c = omega (arith, lawful (goal.at.coded-c-requires c).In-Sized)

pub write_guarded-requires : goal.write_guarded-requires
write_guarded-requires c =
    record { chunk_length = search rules; c_bound = omega (arith, lawful (goal.at.write_guarded-requires c).In-Sized, c.coded-c.ensures) }

pub write-requires-in-Sized : goal.write-requires-in-Sized
write-requires-in-Sized c =
    record { in_bounds = search rules; c_le_header_sum = omega (arith, lawful (goal.at.write-requires-in-Sized c).In-Sized, c.coded-c.ensures) }

pub returns-in-Whole : goal.returns-in-Whole
unfolding granted_chunk
returns-in-Whole c =
    rw (c.in-Whole.is, c.write.ensures, c.new-tag.ensures)

pub returns-in-Sized : goal.returns-in-Sized
unfolding granted_chunk
returns-in-Sized c =
    rw (c.in-Sized.is, c.write-in-Sized.ensures, c.write_guarded.ensures, c.coded-c.ensures, c.new-tag.ensures)
