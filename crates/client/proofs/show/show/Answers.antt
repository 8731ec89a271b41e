-- The part that the answer says lies in the heap. Assumes nothing.
use mathlib.Core.Path.{sym, ◌∙◌}
use Prim.Native.Nat.{◌+◌, ◌≤◌}
use native.Mathlib.Omega.{arith}
use lib.ListN.{length}
use Rattle.words.proofs.Parts.{part-lent}
use Rattle.client.proofs.Clients.{shown_known}
use Rattle.client.proofs.show.show.Goals.{In-Ok}
use Rattle.client.proofs.show.show.Goals as goal

inside : (c : In-Ok) → c.in-Ok.client.buffer + c.in-Ok.client.start + c.in-Ok.client.len ≤ length c.args.image.now.heap.now
inside c = (shown_known _ _ _ _ (sym c.find_client.ensures ∙ c.in-Ok.is)).inside

pub overflow_add-at : goal.overflow_add-at
overflow_add-at c = omega (arith, inside (goal.at.overflow_add-at c).In-Ok)

pub overflow_add-result : goal.overflow_add-result
overflow_add-result c = omega (arith, inside (goal.at.overflow_add-result c).In-Ok)

pub slice_bounds-result-end-2 : goal.slice_bounds-result-end-2
slice_bounds-result-end-2 c = omega (arith, inside (goal.at.slice_bounds-result-end-2 c).In-Ok)

pub returns-clause-bytes : goal.returns-clause-bytes
returns-clause-bytes c =
    rw (← c.find_client.ensures, c.in-Ok.is) (part-lent _ (c.in-Ok.client.buffer + c.in-Ok.client.start) c.in-Ok.client.len)
