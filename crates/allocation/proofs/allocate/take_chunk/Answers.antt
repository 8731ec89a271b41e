-- A chunk of the free pattern whose verdict is not the free one. Assumes nothing.
use mathlib.Core.Path.{sym, ap, ◌∙◌}
use borrow.Author.Tests.{eq-eqb}
use Rattle.tags.specs.Verdict.{of_told}
use Rattle.tags.proofs.Tags.{is_free_lem}
use Rattle.allocation.specs.Allocate.{taken_chunk}
use Rattle.allocation.proofs.Takings.{found_lem}
use Rattle.allocation.proofs.allocate.take_chunk.Goals as goal

pub returns-in_default : goal.returns-in_default
unfolding taken_chunk
returns-in_default c =
    rw (← c.read_tag-tag.ensures, eq-eqb _ _ c.if-tag-spot.false, is_free_lem _ (sym c.is_free.ensures ∙ c.if-not-is_free.false))
    (found_lem _ _ _ (c.from.ensures ∙ ap of_told c.judge_free.ensures) c.in_default.not-Free)
