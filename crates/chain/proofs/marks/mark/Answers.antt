-- The chain is walked over the counts, where the list is not refused. Assumes nothing.
use Rattle.std.proofs.Common.{ap, sym, ◌∙◌, Err, Ok}
use Rattle.std.proofs.lemmas.Result.{err_from_is_err_and}
use Rattle.chain.specs.Marks.{names_after, counts_in}
use Rattle.chain.specs.Walk.{Walks}
use Rattle.chain.specs.Chain.{chain_in}
use Rattle.chain.proofs.Counts.{names_small, marks_whole}
use Rattle.chain.proofs.Markings.{marked-long, marked_stray, marked_well}
use Rattle.chain.proofs.marks.mark.Goals.{After-walk_from}
use Rattle.chain.proofs.marks.mark.Goals as goal

walks : (c : After-walk_from) → Walks (chain_in c.args.g c.args.records.now) (counts_in c.args.g c.args.records.now c.args.magazines.now) c.args.g.count
    c.walk_from.result c.walk_from.new.marks
walks c =
    let n = names_after c.args.g c.args.records.now c.args.g.count in
    c.walk_from.ensures (counts_in c.args.g c.args.records.now c.args.magazines.now)
    (c.in_ok-count_listed.ensures.marks n (names_small c.args.g c.args.records.now c.args.g.count) c.count_names.ensures)

pub returns-then-magazines-g-clause-marked : goal.returns-then-magazines-g-clause-marked
returns-then-magazines-g-clause-marked c = sym (marked-long c.args.g _ _ c.if-magazines-g.true)

pub returns-clause-marked : goal.returns-clause-marked
returns-clause-marked c =
    let w = walks (goal.at.returns-clause-marked c).After-walk_from in
    ap Ok (λ x. record { met = w.met x; ending = w.ending x }) ∙ sym (marked_well c.args.g _ _ c.if-magazines-g.false c.in_ok-count_listed.ensures.ok)

pub returns-in_err-count_listed-clause-marked : goal.returns-in_err-count_listed-clause-marked
returns-in_err-count_listed-clause-marked c =
    let p = err_from_is_err_and c.from_residual.result c.from_residual.ensures.1 in
    rw (p.1, p.2) (ap Err c.in_err-count_listed.ensures.why ∙ sym (marked_stray c.args.g _ _ c.if-magazines-g.false c.in_err-count_listed.ensures.err))

pub returns-clause-marks : goal.returns-clause-marks
returns-clause-marks c =
    (walks (goal.at.returns-clause-marks c).After-walk_from).marked ∙ sym (marks_whole c.args.g c.args.records.now c.args.magazines.now)
