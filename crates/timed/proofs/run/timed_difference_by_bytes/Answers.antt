-- The run is the whole slice. Assumes nothing.
use Rattle.timed.proofs.Filled.{high_bytes, whole-place}
use Rattle.timed.proofs.run.timed_difference_by_bytes.Goals as goal

pub returns : goal.returns
returns c =
    rw (← high_bytes c.args.w, ← c.to_be_bytes.ensures) (whole-place _ _ _ _ c.difference_by_bytes.ensures c.place.ensures)
