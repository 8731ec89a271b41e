-- The chain is walked into the marks, by which every buffer is judged, where the list is not refused and there is room. Assumes nothing.
use mathlib.Core.Path.{sym, ap, ◌∙◌}
use native.Mathlib.Omega.{arith}
use lib.Seq.{sets}
use Rattle.std.specs.Prelude.{Ok}
use borrow.Author.Rules.{rules}
use Rattle.tags.specs.Ending.{ending_value}
use Rattle.chain.specs.declared.walk.Walked.{Walked}
use Rattle.chain.proofs.Chains.{chain_short, ending_below}
use Rattle.chain.proofs.Markings.{marks_known}
use Rattle.geometry.proofs.Sheets.{lawful_known}
use Rattle.verdicts.specs.Marked.{image_with_list}
use Rattle.survey.specs.Table.{table_of}
use Rattle.survey.specs.Numbers.{chain_numbers, numbering}
use Rattle.survey.proofs.Tables.{survey_refused, survey_passes}
use Rattle.survey.proofs.numbers.fill_both.Goals as goal

pub mark-requires-clause-lawful : goal.mark-requires-clause-lawful
mark-requires-clause-lawful c = lawful_known _ c.args.image.now.law

pub returns-in_err-walked : goal.returns-in_err-walked
returns-in_err-walked c =
    rw
    (survey_refused (image_with_list c.args.image.now c.args.magazines.now) c.args.rows.now c.args.chain.now _
    (sym c.mark.ensures.marked ∙ c.in_err-walked.was))
    (search rules)

pub has_room-requires : goal.has_room-requires
has_room-requires c = (lawful_known _ c.args.image.now.law).sizes.few

pub returns-then-not-has_room : goal.returns-then-not-has_room
returns-then-not-has_room c =
    sym
    (survey_passes (image_with_list c.args.image.now c.args.magazines.now) c.args.rows.now c.args.chain.now _ _
    (sym c.mark.ensures.marked ∙ c.in_ok-walked.was) (sym c.has_room.ensures ∙ c.if-not-has_room.true))

pub invariant_of-marked : goal.invariant_of-marked
invariant_of-marked c =
    let k = marks_known _ _ _ _ _ _ c.in_ok-walked.was c.mark.ensures.marked c.mark.ensures.marks in
    record { marked = k.are; ends = ap (λ (w : Walked). w.ending) k.walked }

pub put_chain-requires-clause-met_bound : goal.put_chain-requires-clause-met_bound
put_chain-requires-clause-met_bound c =
    let k = marks_known _ _ _ _ _ _ c.in_ok-walked.was c.mark.ensures.marked c.mark.ensures.marks in
    omega (
      arith,
      ap (λ (w : Walked). w.met) k.walked,
      chain_short c.args.image.now.sheet c.args.image.now.records.now,
      (lawful_known _ c.args.image.now.law).sizes.few,
    )

pub put_chain-requires-clause-ending_bound : goal.put_chain-requires-clause-ending_bound
put_chain-requires-clause-ending_bound c =
    let k = marks_known _ _ _ _ _ _ c.in_ok-walked.was c.mark.ensures.marked c.mark.ensures.marks in
    let z = (lawful_known _ c.args.image.now.law).sizes in
    omega
    (arith, ap (λ (w : Walked). ending_value w.ending) k.walked, ending_below c.args.image.now.sheet c.args.image.now.records.now z, z.few)

pub overflow_cast-result : goal.overflow_cast-result
overflow_cast-result c = let f = (lawful_known _ c.args.image.now.law).sizes.few in omega arith

pub returns : goal.returns
unfolding table_of
returns c =
    let k = marks_known _ _ _ _ _ _ c.in_ok-walked.was c.mark.ensures.marked c.mark.ensures.marks in
    let p = survey_passes (image_with_list c.args.image.now c.args.magazines.now) c.args.rows.now c.args.chain.now _ _
    (sym c.mark.ensures.marked ∙ c.in_ok-walked.was) (sym c.has_room.ensures ∙ c.if-not-has_room.false) in
    let e = c.put_chain.ensures ∙ ap (λ (w : Walked). sets c.args.chain.now 0 (chain_numbers w.met w.ending)) k.walked in
    (λ x. numbering (Ok c.args.image.now.sheet.count) (c.tell_buffers.ensures x) (e x)) ∙ sym p
