-- What the report call answers, and the output afterwards. Assumes nothing.
use Rattle.tags.specs.declared.refusal.Refusal.{Refusal}
use Rattle.std.specs.Prelude.{List, ℕ, length, Option, Some, None, Result, Ok, Err}
use Rattle.tags.specs.Verdict.{verdict_number, verdict_value}
use Rattle.tags.specs.Filling.{Filling, unfilled, told}
use Rattle.tags.specs.declared.format.Profile.{Profile}
use Rattle.tags.specs.declared.refusal.Refusal.TheVariants.{ShortOutput}
use Rattle.sheet.specs.Areas.{Areas, Image, opening_with_log, by_magazines, by_listed}
use Rattle.chain.specs.Chain.{chain_of}
use Rattle.verdicts.specs.Judge.{verdict_of}
use Rattle.lines.specs.Text.{text_of, writing}

-- J2, J8 (the number and the value of the verdict on buffer i of an image)
abbrev pub number_of : Image → ℕ → ℕ
number_of m i = verdict_number (verdict_of m i)

abbrev pub value_of : Image → ℕ → ℕ
value_of m i = verdict_value (verdict_of m i)

-- G3 (the text of an image): each buffer's verdict, the records that the chain meets and how it ends
unfoldable pub report_text : Image → List ℕ
report_text m = text_of (number_of m) (value_of m) m.sheet.count (length (chain_of m).met) (chain_of m).ending

-- E8 (X11): what is answered where a text was written, or had no room
abbrev pub reported_by : Option ℕ → Result ℕ Refusal
reported_by (Some n) = Ok n
reported_by None = Err ShortOutput

-- G8 (the length of the text): a text is reported, all of it or nothing
abbrev pub reporting : List ℕ → List ℕ → Filling (Result ℕ Refusal) ℕ
reporting text output = told reported_by (writing text output)

-- G3 (the report of an open image, where its list is not refused)
unfoldable pub report_image : Image → List ℕ → Filling (Result ℕ Refusal) ℕ
report_image m output = by_magazines m.sheet m.magazines (reporting (report_text m) output) (λ why. unfilled (Err why) output)

-- G3 (the report), after E3 with the log, of k bytes, and the magazine list l
unfoldable pub report_of : Profile → Areas → List ℕ → ℕ → List ℕ → Filling (Result ℕ Refusal) ℕ
report_of p a l k output = by_listed (opening_with_log p a k) a l (λ m. reporting (report_text m) output) (λ why. unfilled (Err why) output)
