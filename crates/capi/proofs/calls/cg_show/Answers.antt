-- The bytes that are shown are few, and start near the buffer's start. Assumes nothing.
use mathlib.Core.Path.{sym, ◌∙◌}
use native.Mathlib.Omega.{arith}
use Rattle.sheet.specs.Areas.{areas}
use Rattle.client.proofs.Clients.{Shows, shown_known, shown_starts}
use Rattle.capi.proofs.calls.cg_show.Goals.{In-Ok}
use Rattle.capi.proofs.calls.cg_show.Goals as goal

known : (c : In-Ok) → Shows c.from.result (areas c.args.sheet.now c.args.heap.now c.args.records.now) c.args.address c.in-Ok.s
known c = shown_known _ _ _ _ (sym c.find_client.ensures ∙ c.in-Ok.is)

pub overflow_cast-s : goal.overflow_cast-s
overflow_cast-s c = omega (arith, (known (goal.at.overflow_cast-s c).In-Ok).near)

pub overflow_cast-s-in-Ok : goal.overflow_cast-s-in-Ok
overflow_cast-s-in-Ok c = omega (arith, (known (goal.at.overflow_cast-s-in-Ok c).In-Ok).few)

pub shown-requires : goal.shown-requires
shown-requires c = omega (arith, (known (goal.at.shown-requires c).In-Ok).near)

pub returns-in-Ok-clause-starts : goal.returns-in-Ok-clause-starts
returns-in-Ok-clause-starts c = shown_starts _ _ _

pub returns-in-Err-clause-starts : goal.returns-in-Err-clause-starts
returns-in-Err-clause-starts c = shown_starts _ _ _
