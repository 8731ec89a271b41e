-- The claim is the theorem. Assumes nothing.
use Rattle.ledger.proofs.Theorem.{theorem}
use Rattle.ledger.proofs.keep_ledger.Goals as goal

pub returns : goal.returns
returns c = theorem
