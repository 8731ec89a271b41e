-- The image is open, whatever its log. Assumes nothing.
use mathlib.Core.Path.{sym}
use Rattle.sheet.proofs.Opens.{logged_known}
use Rattle.transactions.proofs.latest.find_latest.Goals as goal

pub latest_of-requires : goal.latest_of-requires
latest_of-requires c =
    let o = (logged_known _ _ _ _ _ _ (sym c.in_ok-g.ensures)).0.opens in record { lawful = o.law; records_len = o.records_long }
