-- Store. Assumes nothing.
use Rattle.tags.specs.declared.refusal.Refusal.{Refusal}
use Rattle.std.specs.Prelude.{cond, List, ℕ, ◌+◌, leb, length, Result, Ok, Err}
use Rattle.std.proofs.lemmas.List.Edits.{sets}
use Rattle.tags.specs.Refusal.{done}
use Rattle.tags.specs.declared.format.Profile.{Profile}
use Rattle.tags.specs.declared.refusal.Refusal.TheVariants.{PastClient}
use Rattle.sheet.specs.Areas.{Areas, areas, Outcome, outcome, refused_with, opening, by_image}
use Rattle.held.specs.Held.{held_of}
use Rattle.held.specs.declared.Holding.{Holding}
use Rattle.client.specs.Bounds.{client_at, client_size}

-- E6, X10 (offset plus length is more than the client's bytes), E9 (an empty store)
abbrev pub store_test : ℕ → ℕ → Result Holding Refusal → Result Holding Refusal
store_test offset len (Ok p) = cond (leb (offset + len) (client_size p)) (Ok p) (Err PastClient)
store_test offset len (Err why) = Err why

-- E6 (store), after E3
unfoldable pub store_plan : Profile → Areas → ℕ → ℕ → ℕ → Result Holding Refusal
store_plan profile a address offset len = by_image (opening profile a) a (λ m. store_test offset len (held_of m address)) Err

-- K9 (what store writes): the bytes, from the offset on
unfoldable pub stored_areas : Areas → ℕ → List ℕ → Holding → Areas
stored_areas a offset bytes p = areas a.sheet (sets a.heap (client_at p + offset) bytes) a.records

-- K9 (store), E1 (a refusal): by its plan
abbrev pub store_result : Areas → ℕ → List ℕ → Result Holding Refusal → Outcome (Result ℕ Refusal)
store_result a offset bytes (Ok p) = outcome done (stored_areas a offset bytes p)
store_result a offset bytes (Err why) = refused_with (Err why) a

-- K9, E6 (store)
unfoldable pub store_of : Profile → Areas → ℕ → ℕ → List ℕ → Outcome (Result ℕ Refusal)
store_of profile a address offset bytes = store_result a offset bytes (store_plan profile a address offset (length bytes))
