-- The digit says whether one record alone names the buffer; then that record is the one at T0, or the tag is bad. Assumes nothing.
use mathlib.Core.Path.{sym, ap, ◌∙◌}
use native.Mathlib.Omega.{arith}
use Rattle.tags.specs.Verdict.{told_of}
use Rattle.verdicts.proofs.MarkedImages.{found, law, long, chunk_lawful, judged_none, judged_stray, judged_other, judged_named}
use Rattle.verdicts.proofs.marked.MarkedImage.judge_buffer.Goals as goal

pub bounds-self-i : goal.bounds-self-i
bounds-self-i c = omega (arith, c.requires, long c.args.self.now)

pub returns-then-digits-ne1 : goal.returns-then-digits-ne1
returns-then-digits-ne1 c =
    c.from.ensures ∙ ap told_of (sym (judged_none c.args.self.now c.args.i c.requires c.from-digits.ensures c.if-digits-ne1.true))

pub chunk-chunk-requires-clause-lawful : goal.chunk-chunk-requires-clause-lawful
chunk-chunk-requires-clause-lawful c = law c.args.self.now

pub read_tag-tag-requires : goal.read_tag-tag-requires
read_tag-tag-requires c = chunk_lawful c.args.self.now c.args.i c.requires c.chunk-chunk.ensures

pub find_named-requires-clause-lawful : goal.find_named-requires-clause-lawful
find_named-requires-clause-lawful c = law c.args.self.now

pub returns-in_default : goal.returns-in_default
returns-in_default c =
    c.from-in_default.ensures
    ∙ ap told_of
    (sym
    (judged_stray c.args.self.now c.args.i c.requires c.from-digits.ensures c.if-digits-ne1.false c.chunk-chunk.ensures c.read_tag-tag.ensures
    c.find_named.ensures c.in_default.is))

pub buffer-requires-clause-lawful : goal.buffer-requires-clause-lawful
buffer-requires-clause-lawful c = law c.args.self.now

pub buffer-requires-clause-j_lt_count : goal.buffer-requires-clause-j_lt_count
buffer-requires-clause-j_lt_count c = (found c.args.self.now.image.sheet _ _ c.find_named.ensures c.in-Some.is).0

pub buffer_address-requires-clause-lawful : goal.buffer_address-requires-clause-lawful
buffer_address-requires-clause-lawful c = law c.args.self.now

pub returns-then-buffer-buffer_address : goal.returns-then-buffer-buffer_address
returns-then-buffer-buffer_address c =
    c.from-then-buffer-buffer_address.ensures
    ∙ ap told_of
    (sym
    (judged_other c.args.self.now c.args.i c.requires c.from-digits.ensures c.if-digits-ne1.false c.chunk-chunk.ensures c.read_tag-tag.ensures
    c.in-Some.j c.find_named.ensures c.in-Some.is (λ e. c.if-buffer-buffer_address.true (c.buffer.ensures ∙ e ∙ sym c.buffer_address.ensures))))

pub bounds-self-j : goal.bounds-self-j
bounds-self-j c =
    omega (arith, (found c.args.self.now.image.sheet _ _ c.find_named.ensures c.in-Some.is).0, long c.args.self.now)

pub again_at-requires : goal.again_at-requires
again_at-requires c =
    omega (arith, (found c.args.self.now.image.sheet _ _ c.find_named.ensures c.in-Some.is).0, (law c.args.self.now).sizes.few)

pub judge_chained-requires : goal.judge_chained-requires
judge_chained-requires c = chunk_lawful c.args.self.now c.args.i c.requires c.chunk-chunk.ensures

pub returns : goal.returns
returns c =
    c.judge_chained.ensures
    ∙ ap told_of
    (judged_named c.args.self.now c.args.i c.requires c.from-digits.ensures c.if-digits-ne1.false c.chunk-chunk.ensures c.read_tag-tag.ensures
    c.in-Some.j c.find_named.ensures c.in-Some.is (sym c.buffer.ensures ∙ c.if-buffer-buffer_address.false ∙ c.buffer_address.ensures)
    c.from-2.ensures c.again_at.ensures)
