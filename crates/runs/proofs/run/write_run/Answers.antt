-- The run is copied over the part that begins at the offset, and fills it. Assumes nothing.
use Rattle.std.proofs.Common.{◌≡◌, ◌+◌, ◌-◌, length, refl, arith}
use Rattle.words.proofs.Parts.{part_back}
use Rattle.runs.proofs.run.write_run.Goals as goal

pub returns : goal.returns
returns c =
    let n : c.args.at + length c.args.run.now - c.args.at ≡ length c.args.run.now = omega arith in
    rw (n, c.copy_from_slice.ensures.after) (part_back c.args.s.now c.args.run.now c.args.at (length c.args.run.now) refl c.requires)
