-- The run differs in its first eight bytes or in its whole eights, or these are alike and what differs is the rest. Assumes nothing.
use Rattle.std.proofs.Common.{◌-◌, ◌*◌, ◌/◌, ◌∙◌, arith}
use Rattle.runs.proofs.Runs.{run_front, run_behind, run-within}
use Rattle.runs.proofs.run.long_difference.Goals as goal

pub returns-in-Some : goal.returns-in-Some
returns-in-Some c = run_front _ _ 8 (c.args.len - 8) _ _ (omega arith) (omega arith) (omega arith) _ c.two_words_difference.ensures c.in-Some.is

pub returns-in-Some-difference_by_eights : goal.returns-in-Some-difference_by_eights
returns-in-Some-difference_by_eights c =
    let rest = c.args.len - c.args.len / 8 * 8 in
    run_front _ _ _ rest _ _ (omega arith) (omega arith) (omega arith) _ c.difference_by_eights.ensures c.in-Some-difference_by_eights.is

pub overflow_add-result : goal.overflow_add-result
overflow_add-result c = omega (arith, run-within _ _ _ _ (omega arith) _ _ c.difference_by_bytes.ensures c.in_ok-o.was)

pub returns-in_err-o : goal.returns-in_err-o
returns-in_err-o c =
    c.from_residual.ensures
    ∙ rw c.in_err-o.was at (run_behind _ _ _ _ c.args.len _ (omega arith) (omega arith) (omega arith)
    c.difference_by_eights.ensures c.in_default-difference_by_eights.is c.difference_by_bytes.ensures)

pub returns : goal.returns
returns c =
    rw c.in_ok-o.was at (run_behind _ _ _ _ c.args.len _ (omega arith) (omega arith) (omega arith)
    c.difference_by_eights.ensures c.in_default-difference_by_eights.is c.difference_by_bytes.ensures)
