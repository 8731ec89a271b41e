-- The record lies in the record area, whose addresses are words. Assumes nothing.
use Prim.Native.Nat.{◌+◌, ◌*◌, ◌≤◌}
use native.Mathlib.Omega.{arith}
use Rattle.geometry.proofs.Sheets.{record_word_lem}
use Rattle.area.specs.Record.{record_size}
use Rattle.area.proofs.Records.{record_least}
use Rattle.geometry.proofs.sheet.Sheet.record_address.Goals.{Start}
use Rattle.geometry.proofs.sheet.Sheet.record_address.Goals as goal

-- the record's end is a word, or one more
word : (s : Start) → let g = s.args.self in
    g.record_base + s.args.j * record_size g.format.profile + record_size g.format.profile ≤ 4294967296
word s = record_word_lem s.args.self s.requires.lawful s.args.j s.requires.j_lt_count

pub overflow_cast-result : goal.overflow_cast-result
overflow_cast-result c = omega (arith, c.record_place.ensures, word (goal.at.overflow_cast-result c).Start, record_least c.args.self.format.profile)

pub overflow_add-result : goal.overflow_add-result
overflow_add-result c = omega (arith, c.record_place.ensures, word (goal.at.overflow_add-result c).Start, record_least c.args.self.format.profile)
