-- The limits that the numbers of a sheet keep. Assumes nothing.
use Rattle.std.specs.Prelude.{◌≡◌, ◌⊎◌, Bool, ◌&&◌, ◌||◌, not, ℕ, ◌+◌, ◌*◌, ◌%◌, ◌≤◌, ◌<◌, eqb, leb}
use Rattle.geometry.specs.Sheet.{flags_word, heap_length, records_length}
use Rattle.geometry.specs.declared.sheet.Sheet.{Sheet}

-- ---- X2: the limits

-- S5 (the most buffers)
abbrev pub count_most : ℕ
count_most = 512

-- S3 (buffer size), S4 (chunk size), S5 (n, and the heap's length), S6 (flags)
unfoldable pub sizes_lawful : ℕ → ℕ → ℕ → ℕ → Bool
sizes_lawful size chunk n flags =
    eqb (size % 8) 0 && leb 8 size && leb size 4096
    && eqb chunk (size + 16)
    && leb 1 n && leb n count_most && leb (n * chunk) 65536
    && eqb flags flags_word

-- S7 (bases: multiples of 8, not 0), S8 (areas end at 2^32 at most and share no address)
unfoldable pub bases_lawful : ℕ → ℕ → ℕ → ℕ → Bool
bases_lawful heap records heapLen recordsLen =
    not (eqb heap 0) && eqb (heap % 8) 0 && not (eqb records 0) && eqb (records % 8) 0
    && leb (heap + heapLen) 4294967296 && leb (records + recordsLen) 4294967296
    && (leb (heap + heapLen) records || leb (records + recordsLen) heap)

-- S9 (cache address and chain head are free): where this fails, X2
unfoldable pub lawful : Sheet → Bool
lawful g = sizes_lawful g.size g.chunk g.count g.flags && bases_lawful g.heap_base g.record_base (heap_length g) (records_length g)

-- the same, as what is known of the numbers of a lawful sheet
pub record Sizes (size chunk n flags : ℕ) : Type 0 where
  pub eights : size % 8 ≡ 0
  pub least : 8 ≤ size
  pub most : size ≤ 4096
  pub chunks : chunk ≡ size + 16
  pub some : 1 ≤ n
  pub few : n ≤ count_most
  pub area : n * chunk ≤ 65536
  pub flags_are : flags ≡ flags_word

abbrev pub SizesOf : Sheet → Type 0
SizesOf g = Sizes g.size g.chunk g.count g.flags

pub record Bases (heap records heapLen recordsLen : ℕ) : Type 0 where
  pub heap_some : 0 < heap
  pub heap_eights : heap % 8 ≡ 0
  pub records_some : 0 < records
  pub records_eights : records % 8 ≡ 0
  pub heap_fits : heap + heapLen ≤ 4294967296
  pub records_fit : records + recordsLen ≤ 4294967296
  pub apart : (heap + heapLen ≤ records) ⊎ (records + recordsLen ≤ heap)

pub record Lawful (g : Sheet) : Type 0 where
  pub sizes : SizesOf g
  pub bases : Bases g.heap_base g.record_base (heap_length g) (records_length g)
