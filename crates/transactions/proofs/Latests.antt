-- Where the latest transaction lies, by the equation of the answer alone. Assumes nothing.
use Rattle.std.specs.Prelude.{Option, Some, None, Result, Ok, Err}
use mathlib.Core.Path.{◌≡◌, refl, ap, ◌∙◌, subst}
use mathlib.Core.List.{List}
use Prim.Native.Nat.{ℕ, ◌+◌, ◌*◌, ◌≤◌, ◌<◌}
use native.Mathlib.Omega.{arith}
use lib.Dec.{eqb, ltb}
use lib.ListN.{length}
use Rattle.words.proofs.Tests.{by_test}
use Rattle.area.specs.Record.{RecordIn, stamp_number, high_half, low_half}
use Rattle.history.specs.Log.{row_size, rows_of, log_most}
use Rattle.tags.specs.declared.format.Profile.{Profile}
use Rattle.tags.specs.declared.refusal.Refusal.{Refusal}
use Rattle.tags.specs.declared.refusal.Refusal.TheVariants.{Damage}
use Rattle.tags.specs.declared.verdict.Verdict.TheVariants.{NotOneRecord}
use Rattle.sheet.specs.Areas.{Areas, opening_with_log}
use Rattle.geometry.specs.Sheet.{record_address}
use Rattle.sheet.specs.Opening.{Open}
use Rattle.geometry.specs.declared.sheet.Sheet.{Sheet}
use Rattle.sheet.proofs.Opens.{profile_read, logged_known, by-opened}
use Rattle.geometry.proofs.Sheets.{record_inside}
use Rattle.chain.specs.Pairing.{own_in, by_own}
use Rattle.chain.proofs.Owns.{own_below}
use Rattle.transactions.specs.Latest.{latest_row, first_best, row_or_record, owned_latest, indexed_latest, latest_of}
use Rattle.transactions.specs.declared.latest.Transaction.{Transaction}
use Rattle.transactions.specs.declared.latest.Transaction.TheVariants.{Row, Record}
use Rattle.transactions.proofs.Transactions.{row_below}

-- the row or the record lies in its area, of r or l bytes, and its number is small
abbrev LatestIf : Profile → ℕ → ℕ → Result Transaction Refusal → Type 0
LatestIf p r l (Ok (Row k)) = (k * row_size + row_size ≤ l) × (k < 1024)
LatestIf p r l (Ok (Record j)) = RecordIn p j r × (j < 512)
LatestIf p r l (Err why) = Unit {0}

-- what the rows leave of record j
abbrev chosen : Sheet → List ℕ → List ℕ → ℕ → ℕ → Option ℕ
chosen g records log time j =
    (latest_row g.format log (record_address g j) time (first_best (low_half (stamp_number g.format records j)) time) (rows_of (length log))).row

owned_if : (g : Sheet) (h : ℕ) (records log : List ℕ) (time j : ℕ) → Open h (length records) g → length log ≤ log_most → j < g.count
    → LatestIf g.format.profile (length records) (length log) (owned_latest g records log time j)
unfolding owned_latest
owned_if g h records log time j o few below =
    by_test P (eqb (high_half (stamp_number g.format records j)) 0) (λ t. go (chosen g records log time j) refl) (λ t. tt)
  where
    P : Result Transaction Refusal → Type 0
    P = LatestIf g.format.profile (length records) (length log)

    go : (p : Option ℕ) → chosen g records log time j ≡ p → P (Ok (row_or_record p j))
    go (Some k) e = let b = row_below _ _ _ _ _ _ _ e in (omega arith, omega arith)
    go None e = let i = record_inside g o.law j below in (omega (arith, o.records_long), omega (arith, o.law.sizes.few))

latest_if : (p : Profile) (a : Areas) (log : List ℕ) (index time : ℕ) → LatestIf p (length a.records) (length log) (latest_of p a log index time)
unfolding latest_of indexed_latest
latest_if p a log index time =
    by-opened P (opening_with_log p a (length log))
    (λ g e.
    let o = logged_known p a.sheet (length a.heap) (length a.records) (length log) g e in
    by_test P (ltb index g.count)
    (λ t. go g o.0.opens (ap (λ (x : Sheet). x.format.profile) o.0.same ∙ profile_read p a.sheet) o.1 (own_in g a.records index) refl)
    (λ t. tt))
    (λ why. tt)
  where
    P : Result Transaction Refusal → Type 0
    P = LatestIf p (length a.records) (length log)

    go : (g : Sheet) → Open (length a.heap) (length a.records) g → g.format.profile ≡ p → length log ≤ log_most
        → (w : Option ℕ) → own_in g a.records index ≡ w
        → P (by_own w (owned_latest g a.records log time) (Err (Damage NotOneRecord)))
    go g o f few (Some j) e =
        subst (λ (x : Profile). LatestIf x (length a.records) (length log) (owned_latest g a.records log time j)) f
        (owned_if g (length a.heap) a.records log time j o few (own_below _ _ _ _ e))
    go g o f few None e = tt

pub row_known : (p : Profile) (a : Areas) (log : List ℕ) (index time k : ℕ) → latest_of p a log index time ≡ Ok (Row k)
    → (k * row_size + row_size ≤ length log) × (k < 1024)
row_known p a log index time k e = subst (LatestIf p _ _) e (latest_if p a log index time)

pub record_known : (p : Profile) (a : Areas) (log : List ℕ) (index time j : ℕ) → latest_of p a log index time ≡ Ok (Record j)
    → RecordIn p j (length a.records) × (j < 512)
record_known p a log index time j e = subst (LatestIf p _ _) e (latest_if p a log index time)
