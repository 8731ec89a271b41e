-- A word that is a buffer's address changes that buffer's byte, and no other. Assumes nothing.
use Rattle.std.proofs.Common.{refl, sym, ◌∙◌, arith}
use Rattle.chain.proofs.Counts.{placed, chunk_some, listed_none, listed_hit, all_hit, all_miss, all_end}
use Rattle.chain.proofs.marks.count_listed.Goals as goal

pub loop-word-init : goal.loop-word-init
loop-word-init c = (refl, listed_none c.args.g c.args.magazines.now _)

pub returns-in_default-clause-err : goal.returns-in_default-clause-err
returns-in_default-clause-err c =
    c.loop-word.invariant.0 ∙ all_miss c.args.g _ _ c.loop-word-test.true (sym c.find_buffer.ensures ∙ c.in_default.is)

pub bounds-marks-i : goal.bounds-marks-i
bounds-marks-i c = let p = placed _ _ _ _ _ (sym c.find_buffer.ensures ∙ c.in-Some.is) in omega (arith, p.within)

pub bounds-marks-i-in-loop-word : goal.bounds-marks-i-in-loop-word
bounds-marks-i-in-loop-word c = let p = placed _ _ _ _ _ (sym c.find_buffer.ensures ∙ c.in-Some.is) in omega (arith, p.within)

pub loop-word-preserved : goal.loop-word-preserved
loop-word-preserved c =
    let v = c.loop-word.invariant in
    let b = sym c.find_buffer.ensures ∙ c.in-Some.is in (
      v.0 ∙ all_hit c.args.g _ _ c.loop-word-test.true c.in-Some.i b,
      listed_hit c.args.g _ (chunk_some c.args.g c.requires.lawful) _ _ _ c.loop-word-test.true v.1 c.in-Some.i _ b c.with_listing.ensures,
    )

pub returns-clause-ok : goal.returns-clause-ok
returns-clause-ok c = c.loop-word.invariant.0 ∙ all_end c.args.g c.args.magazines.now _ (omega arith)
