-- Before any row it is the record, and after all the row's number says which row it is. Assumes nothing.
use mathlib.Core.Path.{◌≡◌, ap, ◌∙◌}
use Prim.Native.Nat.{◌≤◌}
use native.Mathlib.Omega.{arith}
use borrow.Author.Tests.{lt-ltb, le-ltb}
use Rattle.transactions.proofs.Transactions.{latest_none, latest_more}
use Rattle.transactions.specs.Latest.{Best, considered}
use Rattle.transactions.proofs.latest.latest_row.Goals.{then-is_later, else-is_later}
use Rattle.transactions.proofs.latest.latest_row.Goals as goal

pub loop-k-init : goal.loop-k-init
loop-k-init c =
    let none : c.rows-n.result ≤ c.rows-n.result = omega arith in rw (latest_none, ← c.age-least.ensures, le-ltb _ _ none)

-- a row that is later takes the place of what was latest, which otherwise stays
pub loop-k-preserved : goal.loop-k-preserved
unfolding considered
loop-k-preserved c =
    elim c.if-is_later.branch [
      | then-is_later w ↦
          rw (
            w.found-is,
            w.least-is,
            latest_more,
            ← c.loop-k.invariant,
            ← c.is_later.ensures,
            w.if-is_later.true,
            lt-ltb _ _ c.loop-k-test.true,
            w.age-least-then-is_later.ensures,
            w.row_uptime.ensures,
          )
      | else-is_later w ↦ rw (w.found-is, w.least-is, latest_more, ← c.loop-k.invariant, ← c.is_later.ensures, w.if-is_later.false)
    ]

pub returns : goal.returns
returns c =
    let all : c.loop-k.k ≡ c.rows-n.result = omega arith in
    rw (← c.rows-n.ensures, ← all) (c.then_some.ensures ∙ ap (λ (b : Best). b.row) c.loop-k.invariant)
