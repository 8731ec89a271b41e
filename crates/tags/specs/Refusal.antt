-- The number and the detail of each refusal. Assumes nothing.
use Rattle.std.specs.Prelude.{ℕ, Result, Ok}
use Rattle.tags.specs.Verdict.{verdict_number}
use Rattle.tags.specs.declared.refusal.Refusal.{Refusal}
use Rattle.tags.specs.declared.refusal.Refusal.TheVariants.{BadSheet, BadNumber, BadLength, NoSuchBuffer, NoRoom}
use Rattle.tags.specs.declared.refusal.Refusal.TheVariants.{BadSize, Damage, BrokenHead, NotAllocated, OtherGrant}
use Rattle.tags.specs.declared.refusal.Refusal.TheVariants.{PastClient, ShortOutput, WideStamp, NoThread}

-- X1 to X13: the rule's number is the refusal's
abbrev pub refusal_number : Refusal → ℕ
refusal_number BadSheet = 1
refusal_number BadNumber = 2
refusal_number BadLength = 3
refusal_number NoSuchBuffer = 4
refusal_number NoRoom = 5
refusal_number BadSize = 6
refusal_number (Damage v) = 7
refusal_number BrokenHead = 7
refusal_number NotAllocated = 8
refusal_number OtherGrant = 9
refusal_number PastClient = 10
refusal_number ShortOutput = 11
refusal_number WideStamp = 12
refusal_number NoThread = 13

-- E2 (the detail: of 7 the verdict's number, or 29 for a broken head; else 0)
abbrev pub refusal_detail : Refusal → ℕ
refusal_detail BadSheet = 0
refusal_detail BadNumber = 0
refusal_detail BadLength = 0
refusal_detail NoSuchBuffer = 0
refusal_detail NoRoom = 0
refusal_detail BadSize = 0
refusal_detail (Damage v) = verdict_number v
refusal_detail BrokenHead = 29
refusal_detail NotAllocated = 0
refusal_detail OtherGrant = 0
refusal_detail PastClient = 0
refusal_detail ShortOutput = 0
refusal_detail WideStamp = 0
refusal_detail NoThread = 0

-- a call that was carried out and has nothing to tell
abbrev pub done : Result ℕ Refusal
done = Ok 0
