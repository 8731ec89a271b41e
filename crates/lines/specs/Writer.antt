-- What becomes of a writer: its output and the place where the next piece goes. Assumes nothing.
use Rattle.std.specs.Prelude.{◌≡◌, List, ℕ}
use Rattle.lines.specs.declared.text.Writer.{Writer}
use Rattle.lines.specs.Text.{Wrote}

-- G8 (the output): the text was put where the next piece goes, into the output that was lent
pub record Put (old new : Writer) (text : List ℕ) : Type 0 where
  pub wrote : Wrote old.output.now old.at text new.output.now new.at
  pub same : new.output.ghost_name ≡ old.output.ghost_name

-- G8 (the output's start): the same output, where the next piece goes to its start
abbrev pub at_start : Writer → Writer
at_start w = record { output = w.output; at = 0 }
