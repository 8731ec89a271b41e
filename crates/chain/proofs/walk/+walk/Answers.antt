-- A record that is met leaves one fewer, and the rest is the chain from its next word. Assumes nothing.
use Rattle.std.proofs.Common.{rules, sym, ap, ◌∙◌, ◌+◌, ◌-◌, arith}
use Rattle.words.specs.Word.{number_at}
use Rattle.words.specs.declared.word.Order.{Order}
use Rattle.tags.proofs.Formats.{order_back}
use Rattle.area.specs.Record.{next_at}
use Rattle.chain.proofs.MetRecords.{unmet-set}
use Rattle.chain.proofs.Walking.{record_found, stops_end, stops_broken, stops_again, goes_on}
use Rattle.chain.proofs.walk.+walk.Goals as goal

pub returns-then-word-eq0 : goal.returns-then-word-eq0
returns-then-word-eq0 t c = stops_end _ _ _ _ _ c.if-word-eq0.true

pub returns-in_default : goal.returns-in_default
returns-in_default t c = stops_broken _ _ _ _ _ c.if-word-eq0.false (sym c.find_record.ensures ∙ c.in_default.is)

pub returns-then-marks-i-ne0 : goal.returns-then-marks-i-ne0
returns-then-marks-i-ne0 t c =
    stops_again _ _ _ _ _ c.in-Some.i c.if-word-eq0.false (sym c.find_record.ensures ∙ c.in-Some.is) c.if-marks-i-ne0.true

pub walk-requires : goal.walk-requires
walk-requires t c =
    let f = record_found c.args.g.now c.args.word c.in-Some.i (sym c.find_record.ensures ∙ c.in-Some.is) in
    let u = unmet-set c.args.marks.now c.in-Some.i (omega (arith, f.within)) c.if-marks-i-ne0.false in
    (omega (arith, u), (c.requires.lawful, (c.requires.records_len, (search rules, omega (arith, u)))))

pub returns : goal.returns
returns t c =
    let o = c.read_at-next.ensures ∙ ap (λ (o : Order). number_at o 4 c.args.records.now (c.args.word + next_at - c.args.g.now.record_base)) (search (rules, order_back)) in
    goes_on _ _ _ _ _ c.in-Some.i c.if-word-eq0.false (sym c.find_record.ensures ∙ c.in-Some.is) _ _ _ c.if-marks-i-ne0.false o c.walk.ensures
