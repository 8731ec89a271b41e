-- The loop's invariant: the first k eights repeat the word. Assumes nothing.
use Rattle.std.proofs.Common.{◌≡◌, ◌*◌, ◌/◌, ◌-◌, ◌+◌, Some, sym, refl, arith}
use Rattle.runs.proofs.Runs.{run_front, run_behind, part-within, nowhere_from}
use Rattle.runs.proofs.run.difference_by_eights.Goals as goal

pub loop-k-init : goal.loop-k-init
loop-k-init c =
    let e : c.alike_blocks-k.result / 8 * 8 ≡ c.alike_blocks-k.result = omega (arith, c.alike_blocks-k.ensures.eights) in
    rw e (sym (nowhere_from c.alike_blocks-k.ensures.same))

pub overflow_add-result : goal.overflow_add-result
overflow_add-result c = omega (arith, part-within _ _ _ _ _ _ (omega arith) c.difference_at.ensures c.in-Some.is)

pub returns-in-Some : goal.returns-in-Some
returns-in-Some c =
    let i = c.loop-k.k * 8 in
    let rest = c.args.len - i in
    run_behind _ _ i rest _ _ (omega arith) (omega arith) (omega arith) {d = Some c.in-Some.o} c.loop-k.invariant refl
    (run_front _ _ 8 (rest - 8) rest c.args.w (omega arith) (omega arith) (omega arith) _ (rw c.twice-two.ensures at c.difference_at.ensures) c.in-Some.is)

pub loop-k-preserved : goal.loop-k-preserved
loop-k-preserved c =
    let i = c.loop-k.k * 8 in
    rw c.in_default.is at (run_behind _ _ i 8 ((c.loop-k.k + 1) * 8) _ (omega arith) (omega arith) (omega arith)
    c.loop-k.invariant refl (rw c.twice-two.ensures at c.difference_at.ensures))
