-- The format of the log. Assumes nothing.
use Rattle.std.specs.Prelude.{Bool, ◌&&◌, List, ℕ, ◌+◌, ◌*◌, ◌/◌, ◌%◌, eqb, leb}
use Rattle.tags.specs.Format.{word_at}
use Rattle.tags.specs.declared.format.Format.{Format}

-- A4 (rows of 16 bytes, at most 16,384 bytes)
abbrev pub row_size : ℕ
row_size = 16

abbrev pub log_most : ℕ
log_most = 16384

-- A4 (the rows of a log of l bytes)
abbrev pub rows_of : ℕ → ℕ
rows_of l = l / row_size

-- A4, X3 (the length of a log): a multiple of a row's, and not too long
unfoldable pub log_right : ℕ → Bool
log_right l = eqb (l % row_size) 0 && leb l log_most

-- A5 (the record address of row k)
unfoldable pub row_record : Format → List ℕ → ℕ → ℕ
row_record f log k = word_at f log (k * row_size + 0)

-- A5 (the uptime of row k)
unfoldable pub row_uptime : Format → List ℕ → ℕ → ℕ
row_uptime f log k = word_at f log (k * row_size + 4)
