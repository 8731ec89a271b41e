-- The record at the buffer's own index is found there when T0 is its address; any other is looked for. Assumes nothing.
use mathlib.Core.Path.{sym, ◌∙◌}
use native.Mathlib.Omega.{arith}
use Rattle.area.specs.Record.{record_size}
use Rattle.area.proofs.Places.{place_at}
use Rattle.area.proofs.Records.{record_least}
use Rattle.verdicts.proofs.judge.find_named.Goals as goal

pub returns-then-record_address-t0 : goal.returns-then-record_address-t0
returns-then-record_address-t0 c =
    let g = c.args.g in
    sym
    (place_at g.record_base (record_size g.format.profile) g.count c.args.t0 c.args.i
    (omega (arith, record_least g.format.profile)) c.requires.i_lt_count
    (sym c.if-record_address-t0.true ∙ c.record_address.ensures))
