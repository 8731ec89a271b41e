-- The three areas that a call is lent, what a call leaves in them, and the image that they are once they are open, with its magazine list. Assumes nothing.
use Rattle.std.specs.Prelude.{Bool, true, false, cond, List, [], ◌∷◌, ℕ, eqb, leb, length, Result}
pub use Rattle.area.specs.Place.{PartAt}
use Rattle.area.specs.Place.{by_place}
use Rattle.words.specs.Word.{part}
use Rattle.tags.specs.declared.format.Profile.{Profile}
use Rattle.tags.specs.declared.refusal.Refusal.{Refusal}
use Rattle.tags.specs.declared.refusal.Refusal.TheVariants.{BadLength, NoSuchBuffer, NoThread}
use Rattle.geometry.specs.Sheet.{chunk_place, buffer_of}
use Rattle.sheet.specs.Opening.{opened_of, opened_with_log, by_opened}
use Rattle.geometry.specs.declared.sheet.Sheet.{Sheet}

pub record Areas : Type 0 where
  pub sheet : List ℕ
  pub heap : List ℕ
  pub records : List ℕ

abbrev pub areas : List ℕ → List ℕ → List ℕ → Areas
areas sheet heap records = record { sheet = sheet; heap = heap; records = records }

-- ---- what a contract says of the areas

-- what is said of the lengths of the three areas
abbrev pub by_lengths : {A : Type 1} → (ℕ → ℕ → ℕ → A) → Areas → A
by_lengths f a = f (length a.sheet) (length a.heap) (length a.records)

-- ---- what a call gives

-- K1 (all that a call writes): what it answers, and the areas afterwards
pub record Outcome (A : Type 0) : Type 0 where
  pub answer : A
  pub areas : Areas

abbrev pub outcome : {A : Type 0} → A → Areas → Outcome A
outcome answer a = record { answer = answer; areas = a }

-- E1 (a refused call leaves every lent byte)
abbrev pub refused_with : {A : Type 0} → A → Areas → Outcome A
refused_with answer a = outcome answer a

-- the same, with the answer in another form
abbrev pub answered : {A B : Type 0} → (A → B) → Outcome A → Outcome B
answered f r = outcome (f r.answer) r.areas

-- ---- an image

-- the numbers of an open image, the bytes of its heap and its records, and M1 (the words of its magazine list)
pub record Image : Type 0 where
  pub sheet : Sheet
  pub heap : List ℕ
  pub records : List ℕ
  pub magazines : List ℕ

abbrev pub image : Sheet → List ℕ → List ℕ → List ℕ → Image
image g heap records l = record { sheet = g; heap = heap; records = records; magazines = l }

-- the image that the areas are, once the sheet's numbers are known, with a magazine list
abbrev pub image_with : Areas → List ℕ → Sheet → Image
image_with a l g = image g a.heap a.records l

-- M6 (an image whose list nobody gives has an empty one)
abbrev pub image_of : Areas → Sheet → Image
image_of a g = image_with a [] g

-- the same two of their bytes
abbrev pub image_listed : Sheet → List ℕ → List ℕ → List ℕ → Image
image_listed = image

abbrev pub image_in : Sheet → List ℕ → List ℕ → Image
image_in g heap records = image g heap records []

-- E3 (X1, X2, X3): whether the areas of a call are an image of a profile, and with a log of l bytes
abbrev pub opening : Profile → Areas → Result Sheet Refusal
opening p a = opened_of p a.sheet (length a.heap) (length a.records)

abbrev pub opening_with_log : Profile → Areas → ℕ → Result Sheet Refusal
opening_with_log p a l = opened_with_log p a.sheet (length a.heap) (length a.records) l

-- by whether the areas are an image, as one of the two tells
abbrev pub by_image : {A : Type 0} → Result Sheet Refusal → Areas → (Image → A) → (Refusal → A) → A
by_image o a f shut = by_opened o (λ g. f (image_of a g)) shut

-- M1 (every word is the address of a buffer)
unfoldable pub all_buffers : Sheet → List ℕ → Bool
all_buffers g [] = true
all_buffers g (w ∷ l) = by_place (buffer_of g w) (λ i. all_buffers g l) false

-- E3 (where a magazine list is given: X3 for more than n words, and right after it X4 for a word that is no buffer's start)
abbrev pub by_magazines : {A : Type 0} → Sheet → List ℕ → A → (Refusal → A) → A
by_magazines g l rest shut = cond (leb (length l) g.count) (cond (all_buffers g l) rest (shut NoSuchBuffer)) (shut BadLength)

-- by whether the areas are an image and the list is one of its buffers, as the opening tells of the areas
abbrev pub by_listed : {A : Type 0} → Result Sheet Refusal → Areas → List ℕ → (Image → A) → (Refusal → A) → A
by_listed o a l f shut = by_opened o (λ g. by_magazines g l (f (image_with a l g)) shut) shut

-- X13 (thread 0 is nobody)
abbrev pub is_nobody : ℕ → Bool
is_nobody thread = eqb thread 0

-- E3 (X13 right after X3, in a call that notes its thread): by whether that is somebody's
abbrev pub by_somebody : {A : Type 0} → ℕ → A → (Refusal → A) → A
by_somebody thread rest shut = cond (is_nobody thread) (shut NoThread) rest

-- A1 (the chunk of buffer i), in a heap and in an image
abbrev pub chunk_in : Sheet → List ℕ → ℕ → List ℕ
chunk_in g heap i = part heap (chunk_place g i) g.chunk

abbrev pub chunk_at : Image → ℕ → List ℕ
chunk_at m i = chunk_in m.sheet m.heap i
