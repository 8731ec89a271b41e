-- A size that is decoded is not above the buffer's. Assumes nothing.
use mathlib.Core.Path.{sym, ◌∙◌}
use Rattle.tags.proofs.Tags.{decoded_within}
use Rattle.chunks.proofs.judge.judge_coded.Goals as goal

pub judge_sized-requires-clause-s_bound : goal.judge_sized-requires-clause-s_bound
judge_sized-requires-clause-s_bound c = (decoded_within _ _ _ (sym c.decode.ensures ∙ c.in-Ok.is)).1
