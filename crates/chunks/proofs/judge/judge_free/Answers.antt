-- The differences lie in the buffer and in the redzone. Assumes nothing.
use native.Mathlib.Omega.{arith}
use Rattle.runs.proofs.Runs.{run-within}
use Rattle.chunks.proofs.judge.judge_free.Goals as goal

pub overflow_cast-at : goal.overflow_cast-at
overflow_cast-at c = omega (arith, run-within _ _ _ _ (omega arith) _ _ c.difference_by_eights.ensures c.in-Some.is)

pub overflow_add-size : goal.overflow_add-size
overflow_add-size c = omega (arith, run-within _ _ _ _ (omega arith) _ _ c.two_words_difference.ensures c.in-Some-two_words_difference.is)

pub overflow_cast-size : goal.overflow_cast-size
overflow_cast-size c = omega (arith, run-within _ _ _ _ (omega arith) _ _ c.two_words_difference.ensures c.in-Some-two_words_difference.is)
