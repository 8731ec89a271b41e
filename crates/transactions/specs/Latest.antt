-- The latest transaction. Assumes nothing.
use Rattle.std.specs.Prelude.{◌≡◌, Bool, true, ◌&&◌, cond, List, [], ℕ, zero, suc, ◌*◌, ◌≤◌, ◌<◌, eqb, leb, ltb, length, Option, Some, None, Result, Ok, Err}
use Rattle.std.specs.Borrow.{Bor}
use Rattle.words.specs.Word.{part}
use Rattle.words.specs.Age.{age_of}
use Rattle.tags.specs.declared.format.Profile.{Profile}
use Rattle.tags.specs.declared.format.Format.{Format}
use Rattle.tags.specs.declared.verdict.Verdict.TheVariants.{NotOneRecord}
use Rattle.area.specs.Record.{record_size, stamp_number, high_half, low_half}
use Rattle.history.specs.Log.{row_size, rows_of, row_record, row_uptime}
use Rattle.chain.specs.Pairing.{own_in, by_own}
use Rattle.sheet.specs.Areas.{Areas, PartAt, opening_with_log, by_image}
use Rattle.geometry.specs.Sheet.{record_address}
use Rattle.geometry.specs.declared.sheet.Sheet.{Sheet}
use Rattle.tags.specs.declared.refusal.Refusal.{Refusal}
use Rattle.tags.specs.declared.refusal.Refusal.TheVariants.{NoSuchBuffer, Damage, WideStamp}
use Rattle.transactions.specs.declared.latest.Transaction.{Transaction}
use Rattle.transactions.specs.declared.latest.Transaction.TheVariants.{Row, Record}

-- A5, L1 (the row names the record): row k of the log, the record at the address a
abbrev pub row_names : Format → List ℕ → ℕ → ℕ → Bool
row_names f log a k = eqb (row_record f log k) a

-- L2 (the age of row k)
abbrev pub row_age : Format → List ℕ → ℕ → ℕ → ℕ
row_age f log time k = age_of 32 time (row_uptime f log k)

-- L3 (of equal ages, the later row): row k names the record and is not older than an age
abbrev pub row_later : Format → List ℕ → ℕ → ℕ → ℕ → ℕ → Bool
row_later f log a time k least = row_names f log a k && leb (row_age f log time k) least

-- L3 (what is latest so far): a row, or no row and so the record; and its age
pub record Best : Type 0 where
  pub row : Option ℕ
  pub age : ℕ

-- L3: such a row takes the place of what was latest before it
unfoldable pub considered : Format → List ℕ → ℕ → ℕ → ℕ → Best → Best
considered f log a time k b = cond (row_later f log a time k b.age) (record { row = Some k; age = row_age f log time k }) b

-- L3 (the smallest age): the latest of what was latest before and the first n rows, one after the other
unfoldable pub latest_row : Format → List ℕ → ℕ → ℕ → Best → ℕ → Best
latest_row f log a time b zero = b
latest_row f log a time b (suc k) = considered f log a time k (latest_row f log a time b k)

-- L2, L3 (of equal ages, a row before the record): before any row it is the record, by the low half of its stamp
abbrev pub first_best : ℕ → ℕ → Best
first_best stamp time = record { row = None; age = age_of 32 time stamp }

-- L4 (a row, or else record j)
abbrev pub row_or_record : Option ℕ → ℕ → Transaction
row_or_record (Some k) j = Row k
row_or_record None j = Record j

-- X12 (the high half of the stamp is not 0), for the buffer whose own record is j
unfoldable pub owned_latest : Sheet → List ℕ → List ℕ → ℕ → ℕ → Result Transaction Refusal
owned_latest g records log time j =
    cond (eqb (high_half (stamp_number g.format records j)) 0)
    (Ok
    (row_or_record
    (latest_row g.format log (record_address g j) time (first_best (low_half (stamp_number g.format records j)) time) (rows_of (length log))).row j))
    (Err WideStamp)

-- X4 (index not below n), E7 (X7 with 20)
unfoldable pub indexed_latest : Sheet → List ℕ → List ℕ → ℕ → ℕ → Result Transaction Refusal
indexed_latest g records log index time =
    cond (ltb index g.count) (by_own (own_in g records index) (owned_latest g records log time) (Err (Damage NotOneRecord))) (Err NoSuchBuffer)

-- E7 (the order of latest), after E3
unfoldable pub latest_of : Profile → Areas → List ℕ → ℕ → ℕ → Result Transaction Refusal
latest_of p a log index time =
    by_image (opening_with_log p a (length log)) a (λ m. indexed_latest m.sheet m.records log index time) Err

-- L4 (the part handed back), E1 (of a refusal, none)
abbrev pub latest_part : Profile → List ℕ → List ℕ → Result Transaction Refusal → List ℕ
latest_part p records log (Ok (Row k)) = part log (k * row_size) row_size
latest_part p records log (Ok (Record j)) = part records (j * record_size p) (record_size p)
latest_part p records log (Err why) = []

-- and where it stands, so that it is that row or record and no other with the same bytes; where a refusal's empty part stands is left free
abbrev pub LatestPlace : Profile → Bor (List ℕ) → Bor (List ℕ) → Result Transaction Refusal → Bor (List ℕ) → Type 0
LatestPlace p records log (Ok (Row k)) r = PartAt log (k * row_size) r
LatestPlace p records log (Ok (Record j)) r = PartAt records (j * record_size p) r
LatestPlace p records log (Err why) r = Unit {0}

-- ---- the rule in plain words, which the definitions above meet

-- a row that is chosen names the record, has that age, and is younger than each later row that names it; where no row is, the record has that age, and each
-- row that names it is older
abbrev pub ChosenAt : Format → List ℕ → ℕ → ℕ → ℕ → ℕ → Option ℕ → ℕ → Type 0
ChosenAt f log a time stamp n (Some k) age =
    (k < n) × (row_names f log a k ≡ true) × (age ≡ row_age f log time k) × ((j : ℕ) → k < j → j < n → row_names f log a j ≡ true → age < row_age f log time j)
ChosenAt f log a time stamp n None age =
    (age ≡ age_of 32 time stamp) × ((j : ℕ) → j < n → row_names f log a j ≡ true → age < row_age f log time j)

-- L3 (the smallest age), of the first n rows
pub record Smallest (f : Format) (log : List ℕ) (a time stamp n : ℕ) (b : Best) : Type 0 where
  pub record_older : b.age ≤ age_of 32 time stamp
  pub rows_older : (j : ℕ) → j < n → row_names f log a j ≡ true → b.age ≤ row_age f log time j
  pub chosen : ChosenAt f log a time stamp n b.row b.age
