-- The loop's invariant: how many of the records passed name the buffer, and the last of them. Assumes nothing.
use Rattle.std.proofs.Common.{arith, sym}
use Rattle.chain.proofs.Owns.{found_none, found_hit, found_miss, found_one, found_other}
use Rattle.chain.proofs.pairing.own_record.Goals.{then-buffer, else-buffer}
use Rattle.chain.proofs.pairing.own_record.Goals as goal

pub loop-j-init : goal.loop-j-init
loop-j-init c = (omega arith, found_none _ _)

pub loop-j-preserved : goal.loop-j-preserved
loop-j-preserved c =
    elim c.if-buffer.branch [
      | then-buffer w ↦ rw (w.names-is, w.last-is) (omega arith, found_hit _ _ _ _ _ (cc) c.loop-j.invariant.1)
      | else-buffer w ↦ rw (w.names-is, w.last-is) (omega arith, found_miss _ _ _ _ _ (λ e. w.if-buffer.false (cc)) c.loop-j.invariant.1)
    ]

pub returns-then-names-eq1 : goal.returns-then-names-eq1
returns-then-names-eq1 c = sym (found_one c.args.g _ _ _ _ _ (omega arith) c.loop-j.invariant.1 c.if-names-eq1.true)

pub returns-else-names-eq1 : goal.returns-else-names-eq1
returns-else-names-eq1 c = sym (found_other c.args.g _ _ _ _ _ (omega arith) c.loop-j.invariant.1 c.if-names-eq1.false)
