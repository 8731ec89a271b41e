-- A word is a place's address just where it is a multiple of the stride behind the base, and few enough of them. Assumes nothing.
use mathlib.Core.Path.{sym}
use Prim.Native.Nat.{◌-◌, ◌/◌}
use native.Mathlib.Omega.{arith}
use Rattle.area.proofs.Places.{place-flat, place_none, place_at, address_of, address_multiple, address_quotient}
use Rattle.area.proofs.place.find.Goals.{then-stride-eq0-via-then-stride-eq0, then-stride-eq0-via-else-stride-eq0+then-word-base}
use Rattle.area.proofs.place.find.Goals as goal

pub returns-then-stride-eq0 : goal.returns-then-stride-eq0
returns-then-stride-eq0 c =
    elim c.then-stride-eq0.branch [
      | then-stride-eq0-via-then-stride-eq0 w ↦ sym (place-flat c.args.base c.args.stride c.args.count c.args.word w.if-stride-eq0.true)
      | then-stride-eq0-via-else-stride-eq0+then-word-base w ↦
          sym (place_none c.args.base c.args.stride c.args.count c.args.word (λ i l e. omega arith))
    ]

pub returns-then-off-stride-ne0 : goal.returns-then-off-stride-ne0
returns-then-off-stride-ne0 c =
    sym (place_none c.args.base c.args.stride c.args.count c.args.word
    (λ i l e. c.if-off-stride-ne0.true (address_multiple c.args.base c.args.stride c.args.word i e)))

pub returns-then-i-count : goal.returns-then-i-count
returns-then-i-count c =
    sym
    (place_at c.args.base c.args.stride c.args.count c.args.word ((c.args.word - c.args.base) / c.args.stride) (omega arith) c.if-i-count.true
    (address_of c.args.base c.args.stride c.args.word c.if-word-base.false c.if-off-stride-ne0.false))

pub returns-else-i-count : goal.returns-else-i-count
returns-else-i-count c =
    sym
    (place_none c.args.base c.args.stride c.args.count c.args.word
    (λ i l e. let q = address_quotient c.args.base c.args.stride c.args.word i (omega arith) e in let t = c.if-i-count.false in omega arith))
