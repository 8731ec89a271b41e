-- The report's text as a list of bytes, and what becomes of an output. Assumes nothing.
use Rattle.std.specs.Prelude.{◌≡◌, Bool, ◌||◌, cond, List, [], ◌∷◌, ◌++◌, ℕ, zero, suc, ◌+◌, ◌*◌, ◌/◌, ◌%◌, ◌≤◌, eqb, ltb, length, Option, Some, None}
use Prim.Native.Char.{code}
use Prim.Native.String.{String, [] as none, ◌∷◌ as ◌then◌}
use Rattle.std.proofs.lemmas.List.Edits.{sets}
use Rattle.tags.specs.Filling.{Filling, filling, if_room}
use Rattle.words.specs.Word.{flat}
use Rattle.words.specs.Sum.{total}
use Rattle.tags.specs.Verdict.{is_fault}
use Rattle.tags.specs.declared.ending.Ending.{Ending}
use Rattle.tags.specs.declared.ending.Ending.TheVariants.{End, Broken, Again}

-- ---- pieces

-- the codes of a text's characters, which for ASCII are its bytes
abbrev pub ascii : String → List ℕ
ascii none = []
ascii (c then s) = code c ∷ ascii s

-- G3 (decimal, without leading zeros): the digits of n, where `fuel` is more than n
unfoldable pub decimal_with : ℕ → ℕ → List ℕ
decimal_with zero n = []
decimal_with (suc fuel) n = cond (ltb n 10) ((48 + n) ∷ []) (decimal_with fuel (n / 10) ++ ((48 + n % 10) ∷ []))

abbrev pub decimal_of : ℕ → List ℕ
decimal_of n = decimal_with (suc n) n

-- a number, and a text behind it
abbrev pub field_of : ℕ → String → List ℕ
field_of n s = decimal_of n ++ ascii s

-- a word, and a number behind it on its line
abbrev pub labelled : List ℕ → ℕ → List ℕ
labelled word n = word ++ field_of n "\n"

-- ---- lines

-- G4 (the first line)
abbrev pub header_of : List ℕ
header_of = ascii "heap report 1\n"

-- G5 (the faults with an offset)
unfoldable pub has_offset : ℕ → Bool
has_offset number = eqb number 25 || eqb number 26 || eqb number 28

-- G5 (a fault line: `I fault V OFFSET` or `I fault V`)
unfoldable pub fault_line_of : ℕ → ℕ → ℕ → List ℕ
fault_line_of i number value =
    cond (has_offset number) (field_of i " fault " ++ field_of number " " ++ field_of value "\n") (field_of i " fault " ++ field_of number "\n")

-- G5 (buffer lines: `I free`, `I whole`, `I allocated S`, `I cached`, or that of a fault): the line of buffer i, whose verdict has this number and this
-- value, its size or its offset. Every verdict but 0 to 3 is a fault: none has a number from 4 to 19.
unfoldable pub line_of : ℕ → ℕ → ℕ → List ℕ
line_of i number value =
    cond (eqb number 0) (field_of i " free\n")
    (cond (eqb number 1) (field_of i " whole\n")
    (cond (eqb number 2) (field_of i " allocated " ++ field_of value "\n")
    (cond (eqb number 3) (field_of i " cached\n") (fault_line_of i number value))))

-- G3 (a line for each buffer): those of buffers 0 to n - 1, where `number` and `value` tell each buffer's verdict
abbrev pub lines_of : (ℕ → ℕ) → (ℕ → ℕ) → ℕ → List ℕ
lines_of number value n = flat n (λ i. line_of i (number i) (value i))

-- G6 (the chain line: `chain K end`, `chain K broken`, `chain K again R`)
unfoldable pub chain_line_of : ℕ → Ending → List ℕ
chain_line_of met End = ascii "chain " ++ field_of met " end\n"
chain_line_of met Broken = ascii "chain " ++ field_of met " broken\n"
chain_line_of met (Again r) = ascii "chain " ++ field_of met " again " ++ field_of r "\n"

-- 1 for a fault, else 0
abbrev pub fault_of : ℕ → ℕ
fault_of number = cond (is_fault number) 1 0

-- G7 (the number of fault lines): how many of the first n there are
abbrev pub faults_in : (ℕ → ℕ) → ℕ → ℕ
faults_in number n = total (λ i. fault_of (number i)) n

-- G7 (the last line)
abbrev pub faults_of : ℕ → List ℕ
faults_of count = labelled (ascii "faults ") count

-- G2 (`refused N` and a line feed)
abbrev pub refusal_line_of : ℕ → List ℕ
refusal_line_of number = labelled (ascii "refused ") number

-- ---- the report

-- G3 (the report): that of n buffers, each with its verdict's number and value, and of a chain that met so many records and ended so
unfoldable pub text_of : (ℕ → ℕ) → (ℕ → ℕ) → ℕ → ℕ → Ending → List ℕ
text_of number value n met ending = header_of ++ lines_of number value n ++ chain_line_of met ending ++ faults_of (faults_in number n)

-- ---- how long it can be: of at most 100,000 buffers an index has up to 5 digits and a count up to 6, the number of a verdict 2 and its value 10

abbrev pub most_buffers : ℕ
most_buffers = 100000

-- G4 (`heap report 1`)
abbrev pub header_most : ℕ
header_most = 14

-- G5 (the longest is `I allocated S`)
abbrev pub line_most : ℕ
line_most = 27

-- G6 (the longest is `chain K again R`)
abbrev pub chain_most : ℕ
chain_most = 25

-- G7 (`faults F`)
abbrev pub faults_most : ℕ
faults_most = 14

-- G3 (a line for each buffer, and three more): no report of n buffers is longer
abbrev pub longest : ℕ → ℕ
longest n = header_most + n * line_most + chain_most + faults_most

-- ---- the output

-- the text, which ends at `next`, was put into `entry` from `at` on, if the output goes so far
pub record Wrote (entry : List ℕ) (at : ℕ) (text exit : List ℕ) (next : ℕ) : Type 0 where
  pub long : length exit ≡ length entry
  pub filled : next ≤ length entry → exit ≡ sets entry at text
  pub ends : next ≡ at + length text

-- G8, X11 (all or nothing): the length of the text where there is room for it, at the output's start; output past it stays
abbrev pub writing : List ℕ → List ℕ → Filling (Option ℕ) ℕ
writing text output = if_room (length text) output (filling (Some (length text)) (sets output 0 text)) None
