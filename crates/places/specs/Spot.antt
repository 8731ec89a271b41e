-- A buffer of a sheet, and its own record. Assumes nothing.
use Rattle.std.specs.Prelude.{ℕ, ◌≤◌, ◌<◌}
use Rattle.sheet.specs.Fields.{short_length}
use Rattle.geometry.specs.Sheet.{chunk_place, buffer_address, record_address}
use Rattle.sheet.specs.Opening.{Open}
use Rattle.geometry.specs.declared.sheet.Sheet.{Sheet}
use Rattle.places.specs.declared.spot.Spot.{Spot}

-- buffer i of a sheet, with its own record j
abbrev pub spot : Sheet → ℕ → ℕ → Spot
spot g i j = record { sheet = g; buffer = i; own = j }

-- A1 (where its chunk stands in the heap)
abbrev pub chunk_start : Spot → ℕ
chunk_start p = chunk_place p.sheet p.buffer

-- A1 (its address)
abbrev pub buffer_start : Spot → ℕ
buffer_start p = buffer_address p.sheet p.buffer

-- A2 (the address of its record)
abbrev pub record_start : Spot → ℕ
record_start p = record_address p.sheet p.own

-- what a plan promises to who carries it out: all that is written for a buffer and its record lies in the areas, of s, h and r bytes
pub record Within (s h r : ℕ) (p : Spot) : Type 0 where
  pub long : short_length ≤ s
  pub opened : Open h r p.sheet
  pub buffer : p.buffer < p.sheet.count
  pub own : p.own < p.sheet.count
