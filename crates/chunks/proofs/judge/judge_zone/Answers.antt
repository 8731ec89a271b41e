-- The difference lies in R0. Assumes nothing.
use native.Mathlib.Omega.{arith}
use Rattle.runs.proofs.Runs.{part-within}
use Rattle.chunks.proofs.judge.judge_zone.Goals as goal

pub overflow_add-size : goal.overflow_add-size
overflow_add-size c = omega (arith, part-within _ _ _ _ _ _ (omega arith) c.word_difference.ensures c.in-Some.is)

pub overflow_cast-size : goal.overflow_cast-size
overflow_cast-size c = omega (arith, part-within _ _ _ _ _ _ (omega arith) c.word_difference.ensures c.in-Some.is)
