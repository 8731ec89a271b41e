-- The eights are filled, and if a word is left, it is written behind them. Assumes nothing.
use Rattle.std.proofs.Common.{rules, refl, sym, arith}
use Rattle.runs.proofs.Runs.{fill_more, repeated_once}
use Rattle.runs.proofs.run.fill_words.Goals as goal

pub returns-then-eights-len : goal.returns-then-eights-len
returns-then-eights-len c =
    fill_more _ _ _ _ _ _ 4 _ _ _ c.fill.ensures c.write_run.ensures (sym (repeated_once c.args.w (search rules))) refl (omega arith) (omega arith)
