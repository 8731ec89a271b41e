-- What a call gives that fills a lent row: its answer, and the row afterwards. Assumes nothing.
use Rattle.std.specs.Prelude.{cond, List, ℕ, leb, length}

pub record Filling (A B : Type 0) : Type 0 where
  pub answer : A
  pub rows : List B

abbrev pub filling : {A B : Type 0} → A → List B → Filling A B
filling answer rows = record { answer = answer; rows = rows }

-- E1 (a refused call leaves every lent byte)
abbrev pub unfilled : {A B : Type 0} → A → List B → Filling A B
unfilled answer rows = filling answer rows

-- X11 (the output is too short): there is room for `need`, or not
abbrev pub if_room : {A B : Type 0} → ℕ → List B → Filling A B → A → Filling A B
if_room need rows full short = cond (leb need (length rows)) full (unfilled short rows)

-- the same row, with the answer in another form
abbrev pub told : {A B C : Type 0} → (A → C) → Filling A B → Filling C B
told f r = filling (f r.answer) r.rows
