-- Show. Assumes nothing.
use Rattle.tags.specs.declared.refusal.Refusal.{Refusal}
use Rattle.held.specs.declared.Holding.{Holding}
use Rattle.std.specs.Prelude.{◌≡◌, List, [], ℕ, ◌+◌, Result, Ok, Err}
use Rattle.std.specs.Borrow.{Bor}
use Rattle.tags.specs.declared.format.Profile.{Profile}
use Rattle.words.specs.Word.{part}
use Rattle.sheet.specs.Areas.{Areas, opening, by_image, PartAt}
use Rattle.held.specs.Held.{held_of}
use Rattle.places.specs.Spot.{chunk_start}
use Rattle.client.specs.Bounds.{client_start, client_size}
use Rattle.client.specs.declared.show.Shown.{Shown}

-- K10 (where the buffer stands in the heap, where in it the client's bytes start, and how many they are)
abbrev pub shown : ℕ → ℕ → ℕ → Shown
shown buffer start len = record { buffer = buffer; start = start; len = len }

-- K10, C5, U7 (of the buffer that is held, where the client's bytes are)
abbrev pub show_result : Result Holding Refusal → Result Shown Refusal
show_result (Ok p) = Ok (shown (chunk_start p.spot) (client_start p) (client_size p))
show_result (Err why) = Err why

-- K10, E6 (show), after E3
unfoldable pub shown_of : Profile → Areas → ℕ → Result Shown Refusal
shown_of profile a address = by_image (opening profile a) a (λ m. show_result (held_of m address)) Err

-- K10 (the part handed back), E1 (of a refusal, none)
abbrev pub shown_part : List ℕ → Result Shown Refusal → List ℕ
shown_part heap (Ok s) = part heap (s.buffer + s.start) s.len
shown_part heap (Err why) = []

-- and where it stands, so that it is that buffer's and no other's with the same bytes; where a refusal's empty part stands is left free
abbrev pub ShownPlace : Bor (List ℕ) → Result Shown Refusal → Bor (List ℕ) → Type 0
ShownPlace heap (Ok s) p = PartAt heap (s.buffer + s.start) p
ShownPlace heap (Err why) p = Unit {0}

-- K10 (the buffer at an address): it stands in the heap at that address less the heap's base
abbrev pub StartsAt : ℕ → ℕ → Result Shown Refusal → Type 0
StartsAt base address (Ok s) = base + s.buffer ≡ address
StartsAt base address (Err why) = Unit {0}
