-- The buffer that the plan found is held, and the bytes end in the client's, which lie in the heap. Assumes nothing.
use mathlib.Core.Path.{sym, ◌∙◌}
use Prim.Native.Nat.{◌+◌, ◌≤◌}
use native.Mathlib.Omega.{arith}
use lib.ListN.{length}
use Rattle.client.proofs.Clients.{client_inside, store_known}
use Rattle.client.proofs.store.store.Goals.{After-of-client}
use Rattle.client.proofs.store.store.Goals as goal

pub of-client-requires : goal.of-client-requires
of-client-requires c =
    let k = (store_known _ _ _ _ _ _ (rw c.view.ensures at (sym c.plan.ensures ∙ c.in_ok-held.was))).0.held.within in
    record { lawful = k.opened.law; buffer_lt_count = k.buffer }

-- the bytes lie in the heap
inside : (c : After-of-client) → let s = c.of-client.result in
    s.buffer + s.start + c.args.offset + length c.args.bytes.now ≤ length c.args.image.now.heap.now
inside c =
    let k = store_known _ _ _ _ _ _ (rw c.view.ensures at (sym c.plan.ensures ∙ c.in_ok-held.was)) in
    let i = client_inside _ _ _ _ k.0.held in
    rw c.of-client.ensures (omega arith)

pub overflow_add-at : goal.overflow_add-at
overflow_add-at c = omega (arith, inside (goal.at.overflow_add-at c).After-of-client)

pub overflow_add-at-2 : goal.overflow_add-at-2
overflow_add-at-2 c = omega (arith, inside (goal.at.overflow_add-at-2 c).After-of-client)

pub write_run-requires : goal.write_run-requires
write_run-requires c = inside (goal.at.write_run-requires c).After-of-client
