-- A coded size behind a right header has the header. Assumes nothing.
use mathlib.Core.Path.{sym, ◌∙◌}
use native.Mathlib.Omega.{arith}
use Rattle.chunks.proofs.Headers.{header_short, right_coded}
use Rattle.chunks.proofs.judge.judge_header.Goals as goal

pub overflow_cast-size : goal.overflow_cast-size
overflow_cast-size c = omega (arith, c.size.ensures, header_short c.args.f.profile)

pub overflow_sub-c : goal.overflow_sub-c
overflow_sub-c c = omega (arith, c.size.ensures, right_coded _ _ _ (sym c.is_right.ensures ∙ c.if-is_right.true))
