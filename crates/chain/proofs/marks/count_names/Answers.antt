-- A record that names a buffer changes its byte, and no other. Assumes nothing.
use Rattle.std.proofs.Common.{[], sym, ap, ◌∙◌, ◌<◌, ℕ, length, arith}
use Rattle.std.proofs.lemmas.List.{length-replicate}
use Rattle.chain.proofs.Counts.{placed, chunk_some, no_buffer, small_at, counted_none, counted_hit, counted_miss}
use Rattle.chain.proofs.marks.count_names.Goals.{In-Some, in-Some, in_default}
use Rattle.chain.proofs.marks.count_names.Goals as goal

pub loop-j-init : goal.loop-j-init
loop-j-init c = counted_none c.args.g c.args.records.now _ c.requires.marks_value

-- the buffer that record j names is one of the n
within : (c : In-Some) → c.in-Some.i < c.args.g.count
within c = (placed _ _ _ _ _ (sym c.find_paired.ensures ∙ c.in-Some.is)).within

pub bounds-marks-i : goal.bounds-marks-i
bounds-marks-i c = omega (arith, within (goal.at.bounds-marks-i c).In-Some, ap length c.requires.marks_value, length-replicate {A = ℕ})

pub bounds-marks-i-in-Some : goal.bounds-marks-i-in-Some
bounds-marks-i-in-Some c = omega (arith, within (goal.at.bounds-marks-i-in-Some c).In-Some, ap length c.requires.marks_value, length-replicate {A = ℕ})

pub with_name-requires : goal.with_name-requires
with_name-requires c = small_at c.args.g c.args.records.now c.loop-j.j [] _ c.loop-j.invariant _ (within (goal.at.with_name-requires c).In-Some)

pub loop-j-preserved : goal.loop-j-preserved
loop-j-preserved c =
    elim c.match-find_paired.branch [
      | in-Some w ↦ rw w.marks-is (counted_hit c.args.g _ (chunk_some c.args.g c.requires.lawful) _ _ c.loop-j.invariant _ _ (cc) w.with_name.ensures)
      | in_default w ↦ rw w.marks-is (counted_miss c.args.g _ _ _ (no_buffer c.args.g (chunk_some c.args.g c.requires.lawful) _ (cc)) c.loop-j.invariant)
    ]
