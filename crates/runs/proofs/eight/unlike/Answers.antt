-- Two numbers differ first in the byte in which the lowest digit of their difference lies. Assumes nothing.
use Rattle.std.proofs.Common.{◌≡◌, ◌∙◌, length, arith, rules}
use Rattle.words.proofs.Parts.{length_part}
use Rattle.runs.proofs.Eights.{read_eight, value_eight, same_bytes, lowest_differs, bytes_part}
use Rattle.runs.proofs.eight.unlike.Goals as goal

pub returns : goal.returns
returns c =
    let a = c.from_le_bytes.ensures ∙ read_eight c.args.s.now c.args.at c.requires in
    let k : length c.args.eight ≡ 8 = search rules in
    let b = c.from_le_bytes-2.ensures ∙ value_eight c.args.eight k in
    let l = length_part c.args.s.now c.args.at 8 c.requires in
    let hx = bytes_part c.args.s.now c.args.at 8 (λ i. let f = c.type_inv.s i in search rules) in
    record {
      same = rw (a, b) (same_bytes _ _ (omega arith) (omega arith) hx (λ i. search rules));
      place = rw (a, b) (lowest_differs _ _ (omega arith) (omega arith) hx (λ i. search rules));
    }
