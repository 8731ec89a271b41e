-- The invariant: what the ledger and a list of records say of the three areas. Assumes nothing.
use Rattle.std.specs.Prelude.{None, Ok, Option, Some}
use mathlib.Core.Path.{◌≡◌}
use mathlib.Core.Logic.{◌≢◌}
use mathlib.Core.Bool.{true}
use mathlib.Core.List.{List, [], ◌∷◌}
use Prim.Native.Nat.{ℕ, ◌+◌, ◌≤◌, ◌<◌}
use native.Mathlib.Decide.{dec_lt}
use native.Mathlib.Omega.{arith}
use lib.ListN.{length}
use Rattle.words.proofs.Parts.{below}
use Rattle.sheet.specs.Areas.{Areas, opening, chunk_in}
use Rattle.geometry.specs.Sheet.{headed, heap_length, records_length, buffer_address, record_address, buffer_of}
use Rattle.geometry.specs.Limits.{lawful, Lawful}
use Rattle.area.specs.Record.{record_size, address_word, next_word}
use Rattle.area.proofs.Records.{record_least}
use Rattle.chain.specs.Chain.{occ}
use Rattle.sheet.specs.Fields.{sheet_bytes}
use Rattle.geometry.specs.declared.sheet.Sheet.{Sheet}
use Rattle.geometry.proofs.Sheets.{record_word_lem}
use Rattle.chain.proofs.Chains.{Linked}
use Rattle.ledger.specs.Ledger.{Entry}
use Rattle.ledger.proofs.Chunks.{chunk_for, LawfulEntry}
use Rattle.sheet.proofs.Bytes.{Fits, sheet-opens}

-- what is known of the numbers that were laid out
pub record Laid (g : Sheet) : Type 0 where
  pub law : Lawful g
  pub passed : lawful g ≡ true
  pub cache_fits : g.cache < 4294967296
  pub flags_fit : g.flags < 65536

-- 1 for a buffer that is out
abbrev pub outs : Option Entry → ℕ
outs None = 0
outs (Some o) = 1

-- what the ledger says of the areas; `chain` lists the records of the buffers that are not out, in the chain's order
pub record Invariant (g : Sheet) (head : ℕ) (a : Areas) (out : ℕ → Option Entry) (chain : List ℕ) : Type 0 where
  pub sheet_is : a.sheet ≡ sheet_bytes (headed g head)
  pub heap_long : length a.heap ≡ heap_length g
  pub records_long : length a.records ≡ records_length g
  pub linked : Linked (next_word g.format a.records) g.record_base (record_size g.format.profile) g.count head chain
  pub each : (j : ℕ) → j < g.count → occ j chain + outs (out (buffer_address g j)) ≡ 1
  pub only : (j : ℕ) → g.count ≤ j → occ j chain ≡ 0
  pub chunks : (j : ℕ) → j < g.count → chunk_in g a.heap j ≡ chunk_for g.format g.size (record_address g j) (out (buffer_address g j))
  pub names : (j : ℕ) → j < g.count → address_word g.format a.records j ≡ buffer_address g j
  pub entries : (j : ℕ) → j < g.count → LawfulEntry g.format.profile g.size (out (buffer_address g j))
  pub stray : (x : ℕ) → buffer_of g x ≡ None → out x ≡ None

module _ (g : Sheet) (laid : Laid g) where
  -- a record's address is a word, and not 0
  pub record_fits : (j : ℕ) → j < g.count → record_address g j < 4294967296
  record_fits j h = omega (arith, record_word_lem g laid.law j h, record_least g.format.profile)

  pub records-some : g.record_base ≢ 0
  records-some e = omega (arith, laid.law.bases.records_some)

  pub chunk_some : 0 < g.chunk
  chunk_some = omega (arith, laid.law.sizes.chunks)

  -- the first of a linked list, and the word that leads to it
  pub first_below : (next : ℕ → ℕ) (head j : ℕ) (js : List ℕ)
      → Linked next g.record_base (record_size g.format.profile) g.count head (j ∷ js) → j < g.count
  unfolding Linked
  first_below next head j js l = l.0

  pub first_address : (next : ℕ → ℕ) (head j : ℕ) (js : List ℕ)
      → Linked next g.record_base (record_size g.format.profile) g.count head (j ∷ js) → head ≡ record_address g j
  unfolding Linked
  first_address next head j js l = l.1.0

  pub rest_linked : (next : ℕ → ℕ) (head j : ℕ) (js : List ℕ) → Linked next g.record_base (record_size g.format.profile) g.count head (j ∷ js)
      → Linked next g.record_base (record_size g.format.profile) g.count (next j) js
  unfolding Linked
  rest_linked next head j js l = l.1.1

  pub none_linked : (next : ℕ → ℕ) (head : ℕ) → Linked next g.record_base (record_size g.format.profile) g.count head [] → head ≡ 0
  unfolding Linked
  none_linked next head l = l

  -- the head is a word
  pub head_fits : (next : ℕ → ℕ) (head : ℕ) (js : List ℕ)
      → Linked next g.record_base (record_size g.format.profile) g.count head js → head < 4294967296
  head_fits next head [] l = omega (arith, none_linked next head l)
  head_fits next head (j ∷ js) l = omega (arith, first_address next head j js l, record_fits j (first_below next head j js l))

  pub fits : (head : ℕ) → head < 4294967296 → Fits (headed g head)
  fits head h =
      let law = laid.law in
      let one : 0 < g.count = law.sizes.some in
      record {
        cache = laid.cache_fits;
        heap_base = omega (arith, below g.chunk one, law.bases.heap_fits, chunk_some);
        record_base = omega (arith, record_fits 0 one);
        size = omega (arith, law.sizes.most);
        chunk = omega (arith, law.sizes.most, law.sizes.chunks);
        count = omega (arith, law.sizes.few);
        head = h;
        flags = laid.flags_fit;
      }

  passed_headed : (head : ℕ) → lawful (headed g head) ≡ true
  unfolding lawful
  passed_headed head = laid.passed

  module _ {head : ℕ} {a : Areas} {out : ℕ → Option Entry} {chain : List ℕ} (v : Invariant g head a out chain) where
    -- the image opens
    pub opens : opening g.format.profile a ≡ Ok (headed g head)
    opens =
        rw v.sheet_is
        (sheet-opens (headed g head) (length a.heap) (length a.records) (fits head (head_fits (next_word g.format a.records) head chain v.linked))
        (passed_headed head) v.heap_long v.records_long)

    -- no record is in the list twice
    pub once : (i : ℕ) → occ i chain ≤ 1
    once i = go (dec_lt i g.count)
      where
        go : Dec (i < g.count) → occ i chain ≤ 1
        go (yes h) = omega (arith, v.each i h)
        go (no h) = omega (arith, v.only i (omega arith))
