-- The text computed: docs/RULES.md's dump case, whole, and three more reports that have every other kind of line. Assumes nothing.
use mathlib.Core.Path.{◌≡◌, refl}
use mathlib.Core.List.{List, [], ◌∷◌}
use Prim.Native.Nat.{ℕ}
use Prim.Native.String.{String}
use lib.ListN.{length, get_or}
use Rattle.tags.specs.declared.ending.Ending.{Ending}
use Rattle.tags.specs.declared.ending.Ending.TheVariants.{End, Broken, Again}
use Rattle.tags.specs.Verdict.{verdict_number, verdict_value}
use Rattle.tags.specs.declared.size_code.BadCode.TheVariants.{Remainder, Zero, Above}
use Rattle.tags.specs.declared.verdict.Verdict.{Verdict}
use Rattle.tags.specs.declared.verdict.Verdict.TheVariants.{Free, Whole, Allocated, NotOneRecord, BadTag, FreedTwice, OffChain, OnChain}
use Rattle.tags.specs.declared.verdict.Verdict.TheVariants.{BadFill, BadRedzone, BadSizeCode, Overrun, BadHeader}
use Rattle.words.specs.Word.{flat}
use Rattle.words.specs.Sum.{total}
use Rattle.lines.specs.Text.{ascii, decimal_with, has_offset, line_of, fault_line_of, chain_line_of, text_of}

-- the report of buffers with these verdicts is this text of so many bytes
abbrev Says : List Verdict → ℕ → Ending → String → ℕ → Type 0
Says vs met ending text size =
    (text_of (λ i. verdict_number (get_or vs i Free)) (λ i. verdict_value (get_or vs i Free)) (length vs) met ending ≡ ascii text)
    × (length (ascii text) ≡ size)

-- "Whole report, 64 bytes"
pub dump-case :
    Says (Free ∷ Allocated 20 ∷ Free ∷ []) 2 End
    "heap report 1\n0 free\n1 allocated 20\n2 free\nchain 2 end\nfaults 0\n" 64
unfolding decimal_with has_offset line_of fault_line_of flat chain_line_of total text_of
dump-case = (refl, refl)

-- the faults that have an offset
pub offset-case :
    Says (BadFill 9 ∷ BadRedzone 4103 ∷ Overrun 0 ∷ Whole ∷ []) 0 Broken
    "heap report 1\n0 fault 25 9\n1 fault 26 4103\n2 fault 28 0\n3 whole\nchain 0 broken\nfaults 3\n" 88
unfolding decimal_with has_offset line_of fault_line_of flat chain_line_of total text_of
offset-case = (refl, refl)

-- the faults that have none
pub fault-case :
    Says (NotOneRecord ∷ BadTag ∷ FreedTwice ∷ OffChain ∷ OnChain ∷ BadHeader ∷ []) 10 (Again 2)
    "heap report 1\n0 fault 20\n1 fault 21\n2 fault 22\n3 fault 23\n4 fault 24\n5 fault 30\nchain 10 again 2\nfaults 6\n" 106
unfolding decimal_with has_offset line_of fault_line_of flat chain_line_of total text_of
fault-case = (refl, refl)

-- how a size code is bad
pub code-case :
    Says (BadSizeCode Remainder ∷ BadSizeCode Zero ∷ BadSizeCode Above ∷ []) 0 End
    "heap report 1\n0 fault 27\n1 fault 31\n2 fault 32\nchain 0 end\nfaults 3\n" 68
unfolding decimal_with has_offset line_of fault_line_of flat chain_line_of total text_of
code-case = (refl, refl)
