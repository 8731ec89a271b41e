-- A report that was written fits the space for its text. Assumes nothing.
use Rattle.std.specs.Prelude.{Result}
use Rattle.std.proofs.Common.{ℕ}
use native.Mathlib.Omega.{arith}
use mathlib.Core.Path.{sym, ap, ◌∙◌}
use lib.Seq.{length-take-le}
use Rattle.tags.specs.Filling.{Filling}
use Rattle.tags.specs.declared.refusal.Refusal.{Refusal}
use Rattle.report.proofs.Reports.{report_fits}
use Rattle.heap_report.proofs.tell.Goals as goal

pub slice_bounds-text-end : goal.slice_bounds-text-end
slice_bounds-text-end g c =
    let k = report_fits _ _ _ _ _ _ (ap (λ (x : Filling (Result ℕ Refusal) ℕ). x.answer) (sym c.report.ensures) ∙ c.in-Ok.is) in
    omega (arith, k, c.report.auto.output)

pub slice_bounds-write_all-end : goal.slice_bounds-write_all-end
slice_bounds-write_all-end g c =
    let k = report_fits _ _ _ _ _ _ (ap (λ (x : Filling (Result ℕ Refusal) ℕ). x.answer) (sym c.report.ensures) ∙ c.in-Ok.is) in
    sym (length-take-le _ c.report.new.output (omega (arith, k, c.report.auto.output)))
