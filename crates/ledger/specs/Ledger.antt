-- The calls, the ledger that is kept from their arguments and answers alone, a run of calls, and what holds after every run. Assumes nothing.
use Rattle.tags.specs.declared.refusal.Refusal.{Refusal}
use Rattle.std.specs.Prelude.{◌≡◌, ◌≢◌, ◌↔◌, Bool, true, false, ◌&&◌, not, cond, List, [], ◌∷◌, ℕ, suc, ◌+◌, ◌<◌, eqb, Some, Result, Ok, Err, Option, None}
use Rattle.std.proofs.lemmas.List.Edits.{sets}
use Rattle.words.specs.Word.{part}
use Rattle.words.specs.Sum.{total}
use Rattle.runs.specs.Run.{repeated}
use Rattle.tags.specs.Format.{word_bytes}
use Rattle.tags.specs.Refusal.{done}
use Rattle.tags.specs.Verdict.{verdict_number, is_fault, is_found_allocated}
use Rattle.tags.specs.declared.format.Format.{Format}
use Rattle.tags.specs.declared.format.Profile.{Profile}
use Rattle.tags.specs.declared.ending.Ending.TheVariants.{End}
use Rattle.tags.specs.declared.refusal.Refusal.TheVariants.{NoRoom, NotAllocated, NoThread}
use Rattle.tags.specs.declared.verdict.Verdict.{Verdict}
use Rattle.tags.specs.declared.verdict.Verdict.TheVariants as verdict
use Rattle.chunks.specs.Chunk.{grant_fill, grant_size, lawful_size}
use Rattle.chunks.specs.declared.chunk.Grant.{Grant}
use Rattle.chunks.specs.declared.chunk.Grant.TheVariants as grant
use Rattle.area.specs.declared.record.Stamp.{Stamp}
use Rattle.sheet.specs.Areas.{Areas, Outcome, Image, image_of, opening, is_nobody}
use Rattle.geometry.specs.Sheet.{laid_sheet, headed, buffer_address}
use Rattle.geometry.specs.declared.sheet.Sheet.{Sheet}
use Rattle.chain.specs.Chain.{occ, chain_of}
use Rattle.chain.specs.Pairing.{own_of}
use Rattle.verdicts.specs.Judge.{verdict_of}
use Rattle.layout.specs.Layout.{lay_out_of}
use Rattle.allocation.specs.Allocate.{allocate_of}
use Rattle.free.specs.Free.{free_of}
use Rattle.client.specs.Store.{store_of}
use Rattle.client.specs.Show.{shown_of, shown}

-- ---- the calls

-- K5 (allocate), K7 (free), K9 (store): with any numbers
pub data Call : Type 0 where
  allocate : (q : Grant) (s : Stamp) → Call
  free : (address : ℕ) (q : Grant) (s : Stamp) → Call
  store : (address offset : ℕ) (bytes : List ℕ) → Call

-- K and E, U1: each call refuses, answers and writes as its own definition says, under a profile
abbrev pub result_of : Profile → Call → Areas → Outcome (Result ℕ Refusal)
result_of p (allocate q s) a = allocate_of p a q s
result_of p (free address q s) a = free_of p a address q s
result_of p (store address offset bytes) a = store_of p a address offset bytes

-- X13 (a call of nobody): an allocate or a free of thread 0
abbrev pub by_nobody : Call → Bool
by_nobody (allocate q s) = is_nobody s.thread
by_nobody (free address q s) = is_nobody s.thread
by_nobody (store address offset bytes) = false

-- B12 (a request of lawful size): an allocate that neither X13 nor X6 fits
abbrev pub lawful_request : Profile → ℕ → Grant → Stamp → Bool
lawful_request p size q s = not (is_nobody s.thread) && lawful_size p size q

-- ---- the ledger

-- B2 (what the ledger has of a buffer that is out: its grant and its client bytes)
pub record Entry : Type 0 where
  pub grant : Grant
  pub client : List ℕ

-- B1 to B5 (the ledger): by its address the entry of a buffer that is out, and none of any other; and how many calls were accepted
pub record Ledger : Type 0 where
  pub out : ℕ → Option Entry
  pub allocations : ℕ
  pub frees : ℕ

-- what stands at one address is changed
unfoldable pub put : ℕ → Option Entry → (ℕ → Option Entry) → ℕ → Option Entry
put a o f x = cond (eqb x a) o (f x)

-- B2 (the grant asked for, and its client bytes: the word 0xbaddcafe repeated)
abbrev pub fresh : Format → ℕ → Grant → Entry
fresh f size q = record { grant = q; client = repeated (grant_size size q) (word_bytes f grant_fill) }

-- B3 (bytes over the client bytes, from the offset on)
abbrev pub overwritten : ℕ → List ℕ → Option Entry → Option Entry
overwritten offset bytes None = None
overwritten offset bytes (Some o) = Some (record { grant = o.grant; client = sets o.client offset bytes })

-- B2 (an accepted allocate), B5 (a refused call)
abbrev pub after_allocate : Format → ℕ → Grant → Result ℕ Refusal → Ledger → Ledger
after_allocate f size q (Ok a) l = record { out = put a (Some (fresh f size q)) l.out; allocations = suc l.allocations; frees = l.frees }
after_allocate f size q (Err why) l = l

-- B4 (an accepted free), B5
abbrev pub after_free : ℕ → Result ℕ Refusal → Ledger → Ledger
after_free address (Ok v) l = record { out = put address None l.out; allocations = l.allocations; frees = suc l.frees }
after_free address (Err why) l = l

-- B3 (an accepted store), B5
abbrev pub after_store : ℕ → ℕ → List ℕ → Result ℕ Refusal → Ledger → Ledger
after_store address offset bytes (Ok v) l = record {
  out = put address (overwritten offset bytes (l.out address)) l.out;
  allocations = l.allocations;
  frees = l.frees;
}
after_store address offset bytes (Err why) l = l

-- B2 to B5, from what a call is given and what it answers alone; the format and the size of the buffers are arguments of lay out
abbrev pub after_call : Format → ℕ → Call → Result ℕ Refusal → Ledger → Ledger
after_call f size (allocate q s) answer l = after_allocate f size q answer l
after_call f size (free address q s) answer l = after_free address answer l
after_call f size (store address offset bytes) answer l = after_store address offset bytes answer l

-- ---- a run

-- the areas and the ledger between two calls
pub record RunState : Type 0 where
  pub areas : Areas
  pub ledger : Ledger

-- B1 (an accepted lay out begins it)
abbrev pub begun : Areas → RunState
begun a = record { areas = a; ledger = record { out = λ x. None; allocations = 0; frees = 0 } }

-- one call: it gets the areas as they are and the profile that they were laid out under, and its answer goes into the ledger
abbrev pub step : Format → ℕ → Call → RunState → RunState
step f size call w = record {
  areas = (result_of f.profile call w.areas).areas;
  ledger = after_call f size call (result_of f.profile call w.areas).answer w.ledger;
}

-- a list of calls, which may be empty: each gets the areas as the one before left them
unfoldable pub run : Format → ℕ → List Call → RunState → RunState
run f size [] w = w
run f size (call ∷ calls) w = run f size calls (step f size call w)

-- ---- what holds after every run

-- J9 (found as granted: 1 whole, 2 with s)
abbrev pub as_granted : Grant → Verdict
as_granted grant.Whole = verdict.Whole
as_granted (grant.Sized s) = verdict.Allocated s

-- B8 (out: found as granted; not out: found free)
abbrev pub as_entered : Option Entry → Verdict
as_entered None = verdict.Free
as_entered (Some o) = as_granted o.grant

-- 1 for a buffer that is found allocated, else 0
abbrev pub allocated_one : Verdict → ℕ
allocated_one v = cond (is_found_allocated (verdict_number v)) 1 0

-- B9 (the number found allocated), of n
abbrev pub found_allocated : (ℕ → Verdict) → ℕ → ℕ
found_allocated v n = total (λ i. allocated_one (v i)) n

-- B10 (how often the chain must meet the record of a buffer): once if it is not out, and not at all if it is
abbrev pub times_met : Option Entry → ℕ
times_met None = 1
times_met (Some o) = 0

-- B2, B4 (whether it is out)
abbrev pub is_out : Option Entry → Bool
is_out None = false
is_out (Some o) = true

-- the image between two calls, once the sheet's numbers are known
abbrev pub image_at : RunState → Sheet → Image
image_at w g = image_of w.areas g

-- the claim, of an image that was laid out with the numbers `laid`
pub record Sound (laid : Sheet) (w : RunState) : Type 0 where
  -- B6: the image opens under the profile that it was laid out under, and its sheet is the one laid out but for the head
  pub sheet : Sheet
  pub only_head : sheet ≡ headed laid sheet.head
  pub opens : opening laid.format.profile w.areas ≡ Ok sheet
  -- B7: no buffer has a fault
  pub no_fault : (i : ℕ) → i < laid.count → is_fault (verdict_number (verdict_of (image_at w sheet) i)) ≡ false
  -- B8: the buffers found allocated are those that are out, each as last granted, and all others are found free
  pub found : (i : ℕ) → i < laid.count → verdict_of (image_at w sheet) i ≡ as_entered (w.ledger.out (buffer_address laid i))
  -- and what is out is a buffer
  pub buffers : (a : ℕ) → is_out (w.ledger.out a) ≡ true → (i : ℕ) × ((i < laid.count) × (a ≡ buffer_address laid i))
  -- B9: the number found allocated is that of the accepted allocations less that of the accepted frees
  pub count : w.ledger.allocations ≡ w.ledger.frees + found_allocated (verdict_of (image_at w sheet)) laid.count
  -- B10: the chain ends; it meets the own record of each buffer that is not out once, and of one that is out not at all; and what it meets is the own
  -- record of a buffer that is not out
  pub ends : (chain_of (image_at w sheet)).ending ≡ End
  pub own_met : (i : ℕ) → i < laid.count
      → (j : ℕ)
      × ((own_of (image_at w sheet) i ≡ Some j) × (occ j (chain_of (image_at w sheet)).met ≡ times_met (w.ledger.out (buffer_address laid i))))
  pub only_those : (j : ℕ) → occ j (chain_of (image_at w sheet)).met ≢ 0
      → (i : ℕ) × ((i < laid.count) × ((own_of (image_at w sheet) i ≡ Some j) × (w.ledger.out (buffer_address laid i) ≡ None)))
  -- B11: show answers the client bytes of a buffer that is out, and refuses one that is not
  pub shows : (a : ℕ) (o : Entry) → w.ledger.out a ≡ Some o
      → (buffer : ℕ)
      × ((start : ℕ)
      × ((len : ℕ)
      × ((shown_of laid.format.profile w.areas a ≡ Ok (shown buffer start len)) × (part w.areas.heap (buffer + start) len ≡ o.client))))
  pub hides : (i : ℕ) → i < laid.count → w.ledger.out (buffer_address laid i) ≡ None
      → shown_of laid.format.profile w.areas (buffer_address laid i) ≡ Err NotAllocated
  -- B12: a request of lawful size is refused for want of room, X5, exactly when all buffers are out; else it is accepted, with the address of a buffer
  -- that is not out
  pub room : (q : Grant) (s : Stamp) → lawful_request laid.format.profile laid.size q s ≡ true
      → ((allocate_of laid.format.profile w.areas q s).answer ≡ Err NoRoom)
      ↔ ((i : ℕ) → i < laid.count → is_out (w.ledger.out (buffer_address laid i)) ≡ true)
  pub accepts : (q : Grant) (s : Stamp) → lawful_request laid.format.profile laid.size q s ≡ true
      → ((allocate_of laid.format.profile w.areas q s).answer ≢ Err NoRoom)
      → (i : ℕ)
      × ((i < laid.count)
      × ((w.ledger.out (buffer_address laid i) ≡ None) × ((allocate_of laid.format.profile w.areas q s).answer ≡ Ok (buffer_address laid i))))
  -- B13: a call of nobody is refused with X13, and changes neither the areas nor the ledger
  pub nobody : (call : Call) → by_nobody call ≡ true
      → ((result_of laid.format.profile call w.areas).answer ≡ Err NoThread) × (step laid.format laid.size call w ≡ w)

-- B6 to B13, one claim about the whole list: after an accepted lay out, under either profile and in either order, whose cache address is a word, and any calls
abbrev pub Claim : Type 0
Claim = (a : Areas) (f : Format) (cache heap records size n : ℕ) → cache < 4294967296 → (lay_out_of a f cache heap records size n).answer ≡ done
    → (calls : List Call)
    → Sound (laid_sheet f cache heap records size n) (run f size calls (begun (lay_out_of a f cache heap records size n).areas))
