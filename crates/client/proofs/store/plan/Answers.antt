-- The buffer that is held is one of the open image's. Assumes nothing.
use mathlib.Core.Path.{sym, ◌∙◌}
use Rattle.client.proofs.Clients.{held_open}
use Rattle.client.proofs.store.plan.Goals as goal

pub of-most-requires : goal.of-most-requires
of-most-requires c =
    let k = held_open c.in-Ok.image _ _ (sym c.hold.ensures ∙ c.in_ok-held.was) in record { lawful = k.opened.law; buffer_lt_count = k.buffer }
