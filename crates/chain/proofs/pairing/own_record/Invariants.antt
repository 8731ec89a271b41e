-- The loop's invariant: how many of the records passed name the buffer, and the last of them. Assumes nothing.
use Rattle.std.proofs.Common.{◌≤◌}
use Rattle.area.specs.Record.{address_word}
use Rattle.geometry.specs.Sheet.{buffer_address}
use Rattle.chain.proofs.Owns.{Found}
use Rattle.chain.proofs.pairing.own_record.Given as goal

abbrev pub invariant-loop-j : goal.invariant-loop-j
invariant-loop-j l = (l.names ≤ l.j) × Found (address_word l.g.format l.records) (buffer_address l.g l.i) l.j l.names l.last
