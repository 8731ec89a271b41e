-- The stamp is a word or is not, which its high half tells. Assumes nothing.
use Rattle.std.specs.Prelude.{Ok}
use mathlib.Core.Path.{◌≡◌}
use native.Mathlib.Omega.{arith}
use borrow.Author.Tests.{eq-eqb, ne_eqb}
use Rattle.area.specs.Record.{high_half, low_half}
use Rattle.transactions.specs.Latest.{row_or_record, owned_latest}
use Rattle.transactions.proofs.latest.latest_owned.Goals.{After-latest_row}
use Rattle.transactions.proofs.latest.latest_owned.Goals as goal

-- the high half is 0, so that the rows decide
decided : (c : After-latest_row) → owned_latest c.args.g c.args.records.now c.args.log.now c.args.time c.args.j
    ≡ Ok (row_or_record c.latest_row.result c.args.j)
unfolding owned_latest
decided c =
    let word = c.in-Ok.ensures in
    let high : high_half c.stamp.result ≡ 0 = omega (arith, word.0) in
    let low : low_half c.stamp.result ≡ c.in-Ok.stamp = omega (arith, word.0, word.1) in
    rw (← c.stamp.ensures, eq-eqb _ _ high, low, ← c.record_address.ensures, ← c.latest_row.ensures)

pub returns-in_default : goal.returns-in_default
unfolding owned_latest
returns-in_default c =
    let wide : high_half c.stamp.result ≡ 0 → ⊥ = λ e. c.in_default.ensures (omega arith) in
    rw (← c.stamp.ensures, ne_eqb _ _ wide)

pub returns-in-Some : goal.returns-in-Some
returns-in-Some c = rw (decided (goal.at.returns-in-Some c).After-latest_row, c.in-Some.is)

pub returns-in-None : goal.returns-in-None
returns-in-None c = rw (decided (goal.at.returns-in-None c).After-latest_row, c.in-None.is)
