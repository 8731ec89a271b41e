-- Two numbers differ first in the byte in which the lowest digit of their difference lies. Assumes nothing.
use Rattle.std.proofs.Common.{◌≡◌, ℕ, ◌∙◌, ap, length, arith, rules}
use Rattle.words.specs.Word.{part}
use Rattle.words.proofs.Parts.{length_part}
use Rattle.runs.specs.Run.{difference, lowest_byte}
use Rattle.runs.proofs.Eights.{read_four, value_four, lowest_differs, bytes_part}
use Rattle.runs.proofs.run.word_difference.Goals as goal

pub returns : goal.returns
returns c =
    let a = c.from_le_bytes.ensures ∙ read_four c.args.s.now c.args.at c.requires in
    let k : length c.args.w ≡ 4 = search rules in
    let b = c.from_le_bytes-2.ensures ∙ value_four c.args.w k in
    let l = length_part c.args.s.now c.args.at 4 c.requires in
    let hx = bytes_part c.args.s.now c.args.at 4 (λ i. let f = c.type_inv.s i in search rules) in
    let d : lowest_byte c.from.result ≡ difference (part c.args.s.now c.args.at 4) c.args.w =
    rw (c.from.ensures, a, b) (lowest_differs _ _ (omega arith) (omega arith) hx (λ i. search rules)) in
    c.lowest_byte.ensures ∙ ap (λ (n : ℕ). lowest_byte n) (omega (arith, c.from.ensures)) ∙ d
