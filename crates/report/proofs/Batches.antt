-- The lines and the faults of some buffers, read from their rows, follow those of the buffers before them. Assumes nothing.
use mathlib.Core.Path.{◌≡◌, refl, sym, ap, ◌∙◌}
use mathlib.Core.List.{List, ◌++◌}
use Prim.Native.Nat.{ℕ, ◌+◌, ◌*◌, ◌≤◌, ◌<◌}
use native.Mathlib.Omega.{arith}
use lib.ListN.{length, get_or}
use lib.Seq.{sets}
use Rattle.words.proofs.Parts.{flat-same, flat_add, get_or_written}
use Rattle.words.proofs.Sums.{total-same, total_add}
use Rattle.sheet.specs.Areas.{Image}
use Rattle.verdicts.specs.Judge.{verdict_of, rows_of}
use Rattle.verdicts.proofs.Rows.{row}
use Rattle.lines.specs.Text.{line_of, lines_of, fault_of, faults_in}
use Rattle.lines.proofs.Texts.{verdict_small}
use Rattle.report.specs.Answer.{number_of, value_of}
use Rattle.report.specs.Rows.{row_number, row_lines}

-- the rows of `count` buffers from one on
module _ (m : Image) (first count : ℕ) (l : List ℕ) (fits : count * 3 ≤ length l) (rows : List ℕ) (e : rows ≡ sets l 0 (rows_of m first count)) where
  row_told : (k o : ℕ) → k < count → o < 3 → get_or rows (k * 3 + o) 0 ≡ get_or (row m first k) o 0
  row_told k o h p = rw e (get_or_written 3 (row m first) (λ _. refl) l count k o fits h p)

  -- no number has more than two digits
  pub numbers_small : (k : ℕ) → k < count → row_number rows k < 100
  numbers_small k h = omega (arith, row_told k 1 h (omega arith), verdict_small (verdict_of m (first + k)))

  pub lines_more : lines_of (number_of m) (value_of m) (first + count) ≡ lines_of (number_of m) (value_of m) first ++ row_lines rows first count
  lines_more =
      flat_add (λ (i : ℕ). line_of i (number_of m i) (value_of m i)) first count
      ∙ ap (λ (x : List ℕ). lines_of (number_of m) (value_of m) first ++ x)
      (flat-same _ _ count (λ k h. sym (rw (row_told k 1 h (omega arith), row_told k 2 h (omega arith)))))

  pub faults_more : faults_in (number_of m) (first + count) ≡ faults_in (number_of m) first + faults_in (row_number rows) count
  faults_more =
      total_add (λ (i : ℕ). fault_of (number_of m i)) first count
      ∙ ap (λ (x : ℕ). faults_in (number_of m) first + x) (total-same _ _ count (λ k h. sym (ap fault_of (row_told k 1 h (omega arith)))))
