-- The opening of an image by X1, X2 and X3. Assumes nothing.
use Rattle.std.specs.Prelude.{◌≡◌, Bool, ◌&&◌, cond, List, ℕ, eqb, Result, Ok, Err}
use Rattle.history.specs.Log.{log_right}
use Rattle.tags.specs.declared.format.Profile.{Profile}
use Rattle.tags.specs.declared.refusal.Refusal.{Refusal}
use Rattle.tags.specs.declared.refusal.Refusal.TheVariants.{BadSheet, BadNumber, BadLength}
use Rattle.geometry.specs.Sheet.{heap_length, records_length}
use Rattle.sheet.specs.Fields.{shaped, order_number, order_lawful, sheet_of}
use Rattle.geometry.specs.Limits.{lawful, Lawful}
use Rattle.geometry.specs.declared.sheet.Sheet.{Sheet}
use Rattle.sheet.specs.declared.opening.Lengths.{Lengths}

-- ---- X3: the lengths, and the opening

-- X3 (the lengths of A1 and A2)
abbrev pub lengths_right : Sheet → ℕ → ℕ → Bool
lengths_right g h r = eqb h (heap_length g) && eqb r (records_length g)

-- E3 (first X1, X2, X3): the sheet's numbers, or the first refusal that holds, for areas of h and r bytes
unfoldable pub measured : Sheet → ℕ → ℕ → Result Sheet Refusal
measured g h r = cond (lengths_right g h r) (Ok g) (Err BadLength)

unfoldable pub numbered : Sheet → ℕ → ℕ → Result Sheet Refusal
numbered g h r = cond (lawful g) (measured g h r) (Err BadNumber)

-- X2 (S10: a number without an order)
unfoldable pub ordered : Profile → List ℕ → ℕ → ℕ → Result Sheet Refusal
ordered p s h r = cond (order_lawful (order_number s)) (numbered (sheet_of p s) h r) (Err BadNumber)

unfoldable pub opened_of : Profile → List ℕ → ℕ → ℕ → Result Sheet Refusal
opened_of p s h r = cond (shaped s) (ordered p s h r) (Err BadSheet)

-- by whether an image is open
abbrev pub by_opened {ℓ} : {A : Type ℓ} → Result Sheet Refusal → (Sheet → A) → (Refusal → A) → A
by_opened (Ok g) f shut = f g
by_opened (Err why) f shut = shut why

-- E3 (X3 tests the log where one is given)
unfoldable pub opened_with_log : Profile → List ℕ → ℕ → ℕ → ℕ → Result Sheet Refusal
opened_with_log p s h r l = by_opened (opened_of p s h r) (λ g. cond (log_right l) (Ok g) (Err BadLength)) Err

-- what is known of an open image: its sheet is lawful, and its areas are as long as the sheet says
pub record Open (h r : ℕ) (g : Sheet) : Type 0 where
  pub law : Lawful g
  pub heap_long : h ≡ heap_length g
  pub records_long : r ≡ records_length g

-- ---- the lengths that a sheet asks for

-- A1, A2 (the lengths of the heap and of the record area)
abbrev pub lengths : ℕ → ℕ → Lengths
lengths h r = record { heap = h; records = r }

unfoldable pub areas_of : Sheet → Result Lengths Refusal
areas_of g = cond (lawful g) (Ok (lengths (heap_length g) (records_length g))) (Err BadNumber)

-- K13 (area lengths): X1 and X2, and then the lengths that X3 asks for
unfoldable pub lengths_of : Profile → List ℕ → Result Lengths Refusal
lengths_of p s = cond (shaped s) (cond (order_lawful (order_number s)) (areas_of (sheet_of p s)) (Err BadNumber)) (Err BadSheet)
