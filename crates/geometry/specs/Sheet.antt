-- What the numbers of a sheet say of addresses and places. Assumes nothing.
use Rattle.std.specs.Prelude.{ℕ, ◌+◌, ◌*◌, Option}
use Rattle.area.specs.Place.{place_address, place_of}
use Rattle.area.specs.Record.{record_size}
use Rattle.tags.specs.declared.format.Format.{Format}
use Rattle.geometry.specs.declared.sheet.Sheet.{Sheet}

-- S6 (the flags)
abbrev pub flags_word : ℕ
flags_word = 0x020f

-- K2 (the sheet's numbers): the arguments, a chunk of buffer size plus 16, the chain from record 0, and the flags
abbrev pub laid_sheet : Format → ℕ → ℕ → ℕ → ℕ → ℕ → Sheet
laid_sheet f cache heap_base record_base size n = record {
  format = f;
  cache = cache;
  heap_base = heap_base;
  record_base = record_base;
  size = size;
  chunk = size + 16;
  count = n;
  head = record_base;
  flags = flags_word;
}

-- B6 (a sheet but for its head)
abbrev pub headed : Sheet → ℕ → Sheet
headed g head = record {
  format = g.format;
  cache = g.cache;
  heap_base = g.heap_base;
  record_base = g.record_base;
  size = g.size;
  chunk = g.chunk;
  count = g.count;
  head = head;
  flags = g.flags;
}

-- A1 (the heap is n chunks), A2 (the record area is n records)
abbrev pub heap_length : Sheet → ℕ
heap_length g = g.count * g.chunk

abbrev pub records_length : Sheet → ℕ
records_length g = g.count * record_size g.format.profile

-- A1 (where chunk i stands in the heap), A2 (where record j stands in the record area)
abbrev pub chunk_place : Sheet → ℕ → ℕ
chunk_place g i = i * g.chunk

abbrev pub record_place : Sheet → ℕ → ℕ
record_place g j = j * record_size g.format.profile

-- A1 (the address of buffer i), A2 (the address of record j)
abbrev pub buffer_address : Sheet → ℕ → ℕ
buffer_address g i = place_address g.heap_base g.chunk i

abbrev pub record_address : Sheet → ℕ → ℕ
record_address g j = place_address g.record_base (record_size g.format.profile) j

-- A7 (the buffer, and the record, whose address a word is)
abbrev pub buffer_of : Sheet → ℕ → Option ℕ
buffer_of g w = place_of g.heap_base g.chunk g.count w

abbrev pub record_of : Sheet → ℕ → Option ℕ
record_of g w = place_of g.record_base (record_size g.format.profile) g.count w
