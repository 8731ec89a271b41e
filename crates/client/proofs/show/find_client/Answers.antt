-- The buffer that is held is one of the open image's. Assumes nothing.
use mathlib.Core.Path.{sym, ◌∙◌}
use Rattle.client.proofs.Clients.{held_open}
use Rattle.client.proofs.show.find_client.Goals as goal

pub of-requires : goal.of-requires
of-requires c =
    let k = held_open c.in-Ok.image _ _ (sym c.hold.ensures ∙ c.in_ok-held.was) in record { lawful = k.opened.law; buffer_lt_count = k.buffer }
