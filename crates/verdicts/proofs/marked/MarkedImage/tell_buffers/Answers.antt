-- The loop's invariant: the numbers of the buffers passed are written. Assumes nothing.
use mathlib.Core.Path.{refl, ap, ◌∙◌}
use Prim.Native.Nat.{◌+◌, ◌*◌}
use native.Mathlib.Omega.{arith}
use lib.Seq.{sets}
use Rattle.words.proofs.Parts.{flat-none, flat_more}
use Rattle.tags.specs.declared.verdict.Told.{Told}
use Rattle.verdicts.specs.Judge.{row_of}
use Rattle.verdicts.proofs.MarkedImages.{law}
use Rattle.verdicts.proofs.marked.MarkedImage.tell_buffers.Goals as goal

pub loop-k-init : goal.loop-k-init
loop-k-init c = flat-none 3 _ (λ k. refl) _

pub loop-k-preserved : goal.loop-k-preserved
loop-k-preserved c =
    flat_more 3 _ (λ k. refl) _ _ c.loop-k.invariant
    (c.put_row.ensures ∙ ap (λ (t : Told). sets c.loop-k.rows (c.loop-k.k * 3) (row_of (c.args.from + c.loop-k.k) t)) c.judge_buffer-told.ensures)

pub overflow_add-i : goal.overflow_add-i
overflow_add-i c = omega (arith, (law c.args.self.now).sizes.few)

pub put_row-requires-clause-i_bound : goal.put_row-requires-clause-i_bound
put_row-requires-clause-i_bound c = omega (arith, (law c.args.self.now).sizes.few)
