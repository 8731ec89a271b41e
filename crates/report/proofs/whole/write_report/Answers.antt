-- Where the longest text has room, so has this one. Else the first run changes nothing and counts the text, so that the second has room for all of it.
-- Assumes nothing.
use native.Mathlib.Omega.{arith}
use Rattle.verdicts.specs.Marked.{image_marked}
use Rattle.verdicts.proofs.MarkedImages.{law}
use Rattle.lines.proofs.Texts.{room_for_all}
use Rattle.report.proofs.Reports.{report_text_short}
use Rattle.report.proofs.whole.write_report.Goals as goal

pub longest-requires : goal.longest-requires
longest-requires c = omega (arith, (law c.args.image.now).sizes.few)

pub returns-then-longest-output : goal.returns-then-longest-output
returns-then-longest-output c =
    let short = report_text_short (image_marked c.args.image.now) (law c.args.image.now).sizes in
    room_for_all _ _ _ _ (omega (arith, c.longest.ensures, c.if-longest-output.true, short)) c.put_report.ensures
