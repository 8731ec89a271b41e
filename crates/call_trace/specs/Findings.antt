-- An inspection into four rows of findings: its answer, and one row afterwards. Assumes nothing.
use Rattle.std.specs.Prelude.{List, ℕ, get_or, replicate}
use Rattle.tags.specs.declared.format.Profile.{Profile}
use Rattle.tags.specs.declared.verdict.Verdict.TheVariants.{Whole}
use Rattle.sheet.specs.Areas.{Areas}
use Rattle.image.specs.Inspect.{inspect_of}
use Rattle.image.specs.declared.inspect.Finding.{Finding}
use Rattle.call_trace.specs.declared.findings.Seen.{Seen}

-- what a row holds that no inspection has written: an index that none of four rows is given
abbrev pub blank : Finding
blank = record { index = 9; verdict = Whole }

abbrev pub blanks : List Finding
blanks = replicate 4 blank

-- the answer, and row k, of an inspection with the magazine list l into four such rows
abbrev pub seen_of : Profile → Areas → List ℕ → ℕ → Seen
seen_of p a l k = record { answer = (inspect_of p a l blanks).answer; finding = get_or (inspect_of p a l blanks).rows k blank }
