-- The lines of the batches passed are put, and the faults among them counted; behind them stand the chain line and the last line. Assumes nothing.
use mathlib.Core.Path.{◌≡◌, sym}
use Prim.Native.Nat.{ℕ}
use native.Mathlib.Omega.{arith}
use borrow.Author.Rules.{rules}
use Rattle.words.proofs.Parts.{flat_nil}
use Rattle.words.proofs.Sums.{total-zero}
use Rattle.chain.proofs.Chains.{chain_short, ending_below}
use Rattle.verdicts.specs.Marked.{image_marked}
use Rattle.verdicts.proofs.MarkedImages.{law}
use Rattle.lines.specs.Text.{line_of, fault_of}
use Rattle.lines.proofs.Texts.{put_none, put_then}
use Rattle.report.specs.Answer.{number_of, value_of}
use Rattle.report.proofs.Batches.{numbers_small, lines_more, faults_more}
use Rattle.report.proofs.Reports.{report_is}
use Rattle.report.proofs.whole.put_text.Goals as goal

pub loop-i-init : goal.loop-i-init
loop-i-init c =
    let m = image_marked c.args.image.now in
    record {
      within = search rules;
      few = search rules;
      short = omega (arith, c.put_header.ensures.short);
      counted = sym (total-zero (λ (i : ℕ). fault_of (number_of m i)));
      put = rw (flat_nil (λ (i : ℕ). line_of i (number_of m i) (value_of m i))) (put_none _);
    }

pub put_rows-requires : goal.put_rows-requires
put_rows-requires c =
    let few = (law c.args.image.now).sizes.few in
    record {
      at_bound = omega (arith, few, c.loop-i.invariant.short);
      count_bound = omega (arith, few);
      count_in_bounds = search rules;
      by_index = numbers_small (image_marked c.args.image.now) _ _ _ (omega arith) _ c.tell_buffers.ensures;
    }

pub loop-i-preserved : goal.loop-i-preserved
loop-i-preserved c =
    let m = image_marked c.args.image.now in
    let e = c.loop-i.invariant in
    record {
      within = search rules;
      few = omega (arith, c.count_faults-faults.ensures.few, e.few);
      short = omega (arith, c.put_rows.ensures.short, e.short);
      counted = omega (arith, faults_more m _ _ _ (omega arith) _ c.tell_buffers.ensures, c.count_faults-faults.ensures.are, e.counted);
      put = rw (lines_more m _ _ _ (omega arith) _ c.tell_buffers.ensures) (put_then e.put c.put_rows.ensures.put);
    }

pub put_chain-requires : goal.put_chain-requires
put_chain-requires c =
    let sizes = (law c.args.image.now).sizes in
    let g = c.args.image.now.image.sheet in
    let records = c.args.image.now.image.records.now in
    record {
      at_bound = omega (arith, sizes.few, c.loop-i.invariant.short);
      met_le_most_buffers = omega (arith, c.requires, chain_short g records, sizes.few);
      ending_bound = rw c.args.image.now.ends (omega (arith, ending_below g records sizes, sizes.few));
    }

pub put_faults-requires : goal.put_faults-requires
put_faults-requires c =
    let few = (law c.args.image.now).sizes.few in
    record {
      at_bound = omega (arith, few, c.put_chain.ensures.short, c.loop-i.invariant.short);
      faults_le_most_buffers = omega (arith, few, c.loop-i.invariant.few);
    }

pub returns : goal.returns
returns c =
    let m = image_marked c.args.image.now in
    let i = c.loop-i.i in
    let all : i ≡ m.sheet.count = omega (arith, c.loop-i-test.false, c.loop-i.invariant.within) in
    rw (← report_is m i c.loop-i.faults c.args.met c.args.image.now.ending all c.loop-i.invariant.counted c.requires c.args.image.now.ends)
    (put_then (put_then (put_then c.put_header.ensures.put c.loop-i.invariant.put) c.put_chain.ensures.put) c.put_faults.ensures.put)
