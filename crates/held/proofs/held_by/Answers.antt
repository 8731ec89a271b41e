-- The chunk is of the allocated pattern: its verdict decides, with its header where it has one. Assumes nothing.
use mathlib.Core.Path.{◌≡◌, sym, ◌∙◌}
use Rattle.tags.specs.Tag.{pattern_of}
use Rattle.tags.specs.declared.tag.Pattern.TheVariants as pattern
use Rattle.tags.proofs.Tags.{is_allocated_lem}
use Rattle.chunks.specs.Judge.{coded_verdict, allocated_verdict}
use Rattle.chunks.proofs.Chunks.{headed_other}
use Rattle.held.proofs.held_by.Goals.{Else-not-is_allocated}
use Rattle.held.proofs.held_by.Goals as goal

-- the pattern, by the test
allocated : (c : Else-not-is_allocated) → pattern_of c.read_tag-tag.result ≡ pattern.Allocated
allocated c = is_allocated_lem _ (sym c.is_allocated.ensures ∙ c.if-not-is_allocated.false)

pub returns-then-t-eq2 : goal.returns-then-t-eq2
unfolding allocated_verdict
returns-then-t-eq2 c =
    rw (← c.read_tag-tag.ensures, allocated (goal.at.returns-then-t-eq2 c).Else-not-is_allocated)
    (c.held_as.ensures (allocated_verdict _ _) (c.judge_header.ensures (coded_verdict _ _) c.judge_coded-t.ensures))

pub returns : goal.returns
unfolding allocated_verdict
returns c =
    rw (← c.read_tag-tag.ensures, allocated (goal.at.returns c).Else-not-is_allocated)
    (c.held_as-2.ensures (allocated_verdict _ _) (headed_other _ _ (coded_verdict _ _) _ c.judge_coded-t.ensures c.if-t-eq2.false))
