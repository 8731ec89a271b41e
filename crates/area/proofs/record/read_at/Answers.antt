-- The word lies whole in the window, so that it is one, and turned it is the word in the image's order; the other case does not arise. Assumes nothing.
use mathlib.Core.Path.{◌∙◌}
use native.Mathlib.Omega.{arith}
use Rattle.words.specs.declared.word.Order.TheVariants.{HighFirst}
use Rattle.words.proofs.Numbers.{number_at_again}
use Rattle.window.proofs.Windows.{number-told, number-none}
use Rattle.area.proofs.record.read_at.Goals as goal

pub returns-in-Some : goal.returns-in-Some
returns-in-Some c =
    let read = number-told 4 _ _ _ _ c.requires.base_le_address c.requires.address_bound c.read_word.ensures _ c.in-Some.is in
    c.reordered.ensures ∙ rw read (number_at_again _ HighFirst 4 _ _ (omega arith) (λ i. omega (arith, c.type_inv.records i)))

pub returns-in-None : goal.returns-in-None
returns-in-None c =
    absurd (number-none 4 _ _ _ _ c.requires.base_le_address c.requires.address_bound c.read_word.ensures c.in-None.is)
