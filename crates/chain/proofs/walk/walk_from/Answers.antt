-- The walk from the head, with no record met, is the whole chain. Assumes nothing.
use Rattle.std.proofs.Common.{[], ◌∙◌, arith}
use Rattle.std.proofs.lemmas.List.{append-nil}
use Rattle.chain.proofs.MetRecords.{unmet-most}
use Rattle.chain.proofs.Chains.{chain-whole}
use Rattle.chain.proofs.walk.walk_from.Goals as goal

pub walk-stop-requires-clause-left : goal.walk-stop-requires-clause-left
walk-stop-requires-clause-left c = omega (arith, unmet-most c.args.marks.now, c.requires.marks_len)

pub returns : goal.returns
returns c rest h =
    let w = c.walk-stop.ensures rest [] h in
    rw (chain-whole c.args.g c.args.records.now)
    (record { met = omega (arith, w.met); ending = c.ending.ensures ∙ w.ending; marked = rw append-nil at w.marked })
