-- The laws of the digits: what a byte says, and the counts that a pass makes word by word. Assumes nothing.
use Rattle.std.specs.Prelude.{Some, None}
use mathlib.Core.Path.{◌≡◌, refl, sym, ap, ◌∙◌}
use mathlib.Core.Logic.{◌≢◌}
use mathlib.Core.Bool.{true, false, not, cond}
use mathlib.Core.List.{List, [], ◌∷◌}
use Prim.Native.Nat.{ℕ, zero, suc, ◌+◌, ◌*◌, ◌/◌, ◌%◌, ◌≤◌, ◌<◌}
use native.Mathlib.Numerals.{add-one}
use native.Mathlib.Omega.{arith}
use borrow.Author.Tests.{eq-eqb, ne_eqb, lt-ltb, le-ltb}
use lib.Dec.{eqb}
use lib.ListN.{length, get_or, set, replicate, take, drop}
use lib.Seq.{take-suc, drop-cons, drop-length}
use Rattle.area.specs.Record.{address_word}
use Rattle.area.proofs.Places.{address_one, place_found, place_missed}
use Rattle.geometry.specs.Limits.{Lawful}
use Rattle.geometry.specs.Sheet.{buffer_address, buffer_of}
use Rattle.geometry.specs.declared.sheet.Sheet.{Sheet}
use Rattle.area.specs.Place.{place_address, place_of}
use Rattle.sheet.specs.Areas.{all_buffers}
use Rattle.chain.specs.Chain.{occ, chain_in, met_by}
use Rattle.chain.specs.Walk.{table, to_one, area_of}
use Rattle.chain.specs.Pairing.{namers}
use Rattle.chain.specs.Magazines.{listed_in}
use Rattle.chain.specs.Marks.{to_two, named_by, names_after, with_listed, counts_in, marks_in, met_digit, names_digit, listed_digit, with_name, with_listing}
use Rattle.chain.proofs.MetRecords.{occ_cons, occ_append, occ-none, one_most, none}
use Rattle.chain.proofs.MetRecords.{length-table, get_or_table, is-table, table-set, length-area, area_at, area_bit}

-- ---- one byte

two_most : (k : ℕ) → to_two k ≤ 2
two_most zero = omega arith
two_most (suc zero) = omega arith
two_most (suc (suc k)) = omega arith

-- the byte with the lowest digit m whose buffer a records name
abbrev byte : ℕ → ℕ → ℕ
byte m a = m + 2 * to_two a

byte_names : (m a : ℕ) → m ≤ 1 → names_digit (byte m a) ≡ to_two a
byte_names m a h =
    let b : byte m a / 2 ≡ to_two a = omega arith in
    ap (λ (x : ℕ). x % 4) b ∙ (let t = two_most a in omega arith)

byte_small : (m a : ℕ) → m ≤ 1 → byte m a < 6
byte_small m a h = let t = two_most a in omega arith

byte_name : (m a : ℕ) → m ≤ 1 → with_name (byte m a) ≡ byte m (suc a)
byte_name m zero h = simp (ne_eqb (names_digit (byte m 0)) 2 (λ e. let d = byte_names m 0 h in omega arith)) (omega arith)
byte_name m (suc zero) h = simp (ne_eqb (names_digit (byte m 1)) 2 (λ e. let d = byte_names m 1 h in omega arith)) (omega arith)
byte_name m (suc (suc k)) h = simp (eq-eqb (names_digit (byte m (suc (suc k)))) 2 (byte_names m (suc (suc k)) h))

-- the byte whose two lower digits are m and r, of a buffer that is listed a times
abbrev listing : ℕ → ℕ → ℕ → ℕ
listing m r a = m + 2 * (r + 4 * to_two a)

listing_listed : (m r a : ℕ) → m ≤ 1 → r < 4 → listed_digit (listing m r a) ≡ to_two a
listing_listed m r a h k = omega arith

listing_names : (m r a : ℕ) → m ≤ 1 → r < 4 → names_digit (listing m r a) ≡ r
listing_names m r a h k =
    let b : listing m r a / 2 ≡ r + 4 * to_two a = omega arith in
    ap (λ (x : ℕ). x % 4) b ∙ omega arith

listing_more : (m r a : ℕ) → m ≤ 1 → r < 4 → with_listing (listing m r a) ≡ listing m r (suc a)
listing_more m r zero h k = simp (lt-ltb (listed_digit (listing m r 0)) 2 (omega arith)) (omega arith)
listing_more m r (suc zero) h k = simp (lt-ltb (listed_digit (listing m r 1)) 2 (omega arith)) (omega arith)
listing_more m r (suc (suc a)) h k = simp (le-ltb (listed_digit (listing m r (suc (suc a)))) 2 (omega arith))

met_digit_lem : (b k : ℕ) → b % 2 ≡ to_one k → met_digit b ≡ not (eqb k 0)
met_digit_lem b zero e = simp (eq-eqb (b % 2) 0 e)
met_digit_lem b (suc k) e = simp (ne_eqb (b % 2) 0 (λ z. omega arith), ne_eqb (suc k) 0 (λ z. omega arith))

-- ---- the marks

area_clear : (n : ℕ) → replicate n 0 ≡ area_of n none []
unfolding occ table
area_clear zero = refl
area_clear (suc n) = ap (λ (l : List ℕ). 0 ∷ l) (area_clear n)

-- ---- a pass that counts: c tells how often each place was met before a word, and d how often with it; `f i` is the byte of place i by its count

module _ (n : ℕ) (f : ℕ → ℕ → ℕ) (c d : ℕ → ℕ) (marks : List ℕ) (e : marks ≡ table n (λ i. f i (c i))) where
  -- the word is place k's alone
  counts_hit : (k v : ℕ) → k < n → d k ≡ suc (c k) → ((i : ℕ) → i ≢ k → d i ≡ c i) → v ≡ f k (suc (c k)) → set marks k v ≡ table n (λ i. f i (d i))
  counts_hit k v h s o w =
      ap (λ (a : List ℕ). set a k v) e
      ∙ table-set n k v (λ i. f i (c i)) (λ i. f i (d i)) h (ap (f k) s ∙ sym w) (λ i q. ap (f i) (o i q))

  -- it is none's
  counts_miss : ((i : ℕ) → i < n → d i ≡ c i) → marks ≡ table n (λ i. f i (d i))
  counts_miss o =
      is-table marks n (λ i. f i (d i)) (ap length e ∙ length-table n (λ i. f i (c i)))
      (λ i l. ap (λ (a : List ℕ). get_or a i 0) e ∙ get_or_table n (λ j. f j (c j)) i l ∙ ap (f i) (sym (o i l)))

-- a place that is found is one of the n, and the word is its address
pub record Placed (base stride n w i : ℕ) : Type 0 where
  pub within : i < n
  pub at : w ≡ place_address base stride i

pub placed : (base stride n w i : ℕ) → place_of base stride n w ≡ Some i → Placed base stride n w i
placed base stride n w i e = let f = place_found base stride n w i e in record { within = f.0; at = f.1 }

pub buffer_placed : (g : Sheet) (w i : ℕ) → buffer_of g w ≡ Some i → Placed g.heap_base g.chunk g.count w i
buffer_placed g w i e = placed g.heap_base g.chunk g.count w i e

-- a lawful sheet has chunks of some bytes
pub chunk_some : (g : Sheet) → Lawful g → 0 < g.chunk
chunk_some g law = omega (arith, law.sizes.chunks)

module _ (g : Sheet) (some : 0 < g.chunk) (w : ℕ) where
  -- where the word is the address of buffer k, it is no other's; and where it is none's
  no_other : (k i : ℕ) → buffer_of g w ≡ Some k → i ≢ k → w ≢ buffer_address g i
  no_other k i e d q = d (address_one g.heap_base g.chunk i k some (sym q ∙ (buffer_placed g w k e).at))

  pub no_buffer : buffer_of g w ≡ None → (i : ℕ) → i < g.count → w ≢ buffer_address g i
  no_buffer e i h q = place_missed g.heap_base g.chunk g.count w some e i h q

module _ (g : Sheet) (records : List ℕ) where
  -- the marks when the first j records are counted
  abbrev pub Counted : ℕ → List ℕ → Type 0
  Counted j marks = marks ≡ area_of g.count (names_after g records j) []

  module _ (j : ℕ) (met marks : List ℕ) (e : marks ≡ area_of g.count (names_after g records j) met) where
    byte_at : (i : ℕ) → i < g.count → get_or marks i 0 ≡ byte (to_one (occ i met)) (named_by g records j i)
    byte_at i h = ap (λ (a : List ℕ). get_or a i 0) e ∙ area_at g.count (names_after g records j) met i h

    pub small_at : (i : ℕ) → i < g.count → get_or marks i 0 < 6
    small_at i h = let b = byte_at i h in let s = byte_small (to_one (occ i met)) (named_by g records j i) (one_most (occ i met)) in omega arith

    pub names_at : (i : ℕ) → i < g.count → names_digit (get_or marks i 0) ≡ names_after g records j i
    names_at i h = ap names_digit (byte_at i h) ∙ byte_names (to_one (occ i met)) (named_by g records j i) (one_most (occ i met))

  pub counted_none : (marks : List ℕ) → marks ≡ replicate g.count 0 → Counted 0 marks
  unfolding namers
  counted_none marks e = e ∙ area_clear g.count

  module _ (some : 0 < g.chunk) (j : ℕ) (marks : List ℕ) (e : Counted j marks) where
    -- record j names buffer k, and no other
    pub counted_hit : (k v : ℕ) → buffer_of g (address_word g.format records j) ≡ Some k → v ≡ with_name (get_or marks k 0) → Counted (j + 1) (set marks k v)
    unfolding namers
    counted_hit k v b d =
        let w = address_word g.format records j in
        let f = buffer_placed g w k b in
        rw add-one
        (counts_hit g.count (λ i. byte (to_one (occ i []))) (named_by g records j) (named_by g records (suc j)) marks e k v f.within
        (simp (eq-eqb w (buffer_address g k) f.at))
        (λ i o. simp (ne_eqb w (buffer_address g i) (no_other g some w k i b o)))
        (d ∙ ap with_name (byte_at j [] marks e k f.within) ∙ byte_name (to_one (occ k [])) (named_by g records j k) (one_most (occ k []))))

  -- record j names none of them
  pub counted_miss : (j : ℕ) (marks : List ℕ) → ((i : ℕ) → i < g.count → address_word g.format records j ≢ buffer_address g i)
      → Counted j marks → Counted (j + 1) marks
  unfolding namers
  counted_miss j marks h e =
      rw add-one
      (counts_miss g.count (λ i. byte (to_one (occ i []))) (named_by g records j) (named_by g records (suc j)) marks e
      (λ i l. simp (ne_eqb (address_word g.format records j) (buffer_address g i) (h i l))))

  -- ---- the marks of an image

  -- a digit of names is below 4
  pub names_small : (j i : ℕ) → names_after g records j i < 4
  names_small j i = let t = two_most (named_by g records j i) in omega arith

  module _ (l : List ℕ) where
    abbrev upper : ℕ → ℕ
    upper = counts_in g records l

    abbrev met : List ℕ
    met = (chain_in g records).met

    pub marks_whole : marks_in g records l ≡ area_of g.count upper met
    unfolding marks_in
    marks_whole = refl

    module _ (marks : List ℕ) (e : marks ≡ marks_in g records l) where
      pub length_marks : length marks ≡ g.count
      length_marks = ap length (e ∙ marks_whole) ∙ length-area g.count upper met

      mark_at : (i : ℕ) → i < g.count → get_or marks i 0 ≡ listing (to_one (occ i met)) (names_after g records g.count i) (listed_in g l i)
      mark_at i h = ap (λ (a : List ℕ). get_or a i 0) (e ∙ marks_whole) ∙ area_at g.count upper met i h

      -- the digits of a buffer are how many records name it, and how often it is listed
      pub marks_names : (i : ℕ) → i < g.count → names_digit (get_or marks i 0) ≡ names_after g records g.count i
      marks_names i h = ap names_digit (mark_at i h) ∙ listing_names (to_one (occ i met)) _ (listed_in g l i) (one_most (occ i met)) (names_small g.count i)

      pub marks_listed : (i : ℕ) → i < g.count → listed_digit (get_or marks i 0) ≡ to_two (listed_in g l i)
      marks_listed i h =
          ap listed_digit (mark_at i h) ∙ listing_listed (to_one (occ i met)) _ (listed_in g l i) (one_most (occ i met)) (names_small g.count i)

      -- and that of a record whether the chain meets it
      pub marks_met : (j : ℕ) → j < g.count → met_digit (get_or marks j 0) ≡ met_by (chain_in g records) j
      marks_met j h = met_digit_lem (get_or marks j 0) (occ j met) (area_bit g.count upper met marks j (e ∙ marks_whole) h)

-- ---- the magazine list

module _ (g : Sheet) (l : List ℕ) where
  -- the marks when the first k words are counted, above what stood below
  abbrev pub Listed : ℕ → List ℕ → List ℕ → Type 0
  Listed k entry marks =
      (rest : ℕ → ℕ) → ((i : ℕ) → rest i < 4) → entry ≡ area_of g.count rest [] → marks ≡ area_of g.count (with_listed g (take k l) rest) []

  -- how often a buffer is listed, by one word more
  listed_more : (k i : ℕ) → k < length l → listed_in g (take (suc k) l) i ≡ listed_in g (take k l) i + cond (eqb (buffer_address g i) (get_or l k 0)) 1 0
  listed_more k i h =
      ap (occ (buffer_address g i)) (take-suc l k 0 h) ∙ occ_append (buffer_address g i) (take k l) (get_or l k 0 ∷ [])
      ∙ simp (occ_cons, occ-none) (omega arith)

  pub listed_none : (entry : List ℕ) → Listed 0 entry entry
  listed_none entry rest small e =
      counts_miss g.count (λ j r. to_one (occ j []) + 2 * r) rest (with_listed g [] rest) entry e (λ i h. simp occ-none (omega arith))

  module _ (some : 0 < g.chunk) (k : ℕ) (entry marks : List ℕ) (h : k < length l) (c : Listed k entry marks) where
    -- word k is the address of buffer i, and of no other
    pub listed_hit : (i v : ℕ) → buffer_of g (get_or l k 0) ≡ Some i → v ≡ with_listing (get_or marks i 0) → Listed (k + 1) entry (set marks i v)
    listed_hit i v b d rest small e =
        let f = buffer_placed g (get_or l k 0) i b in
        rw add-one
        (counts_hit g.count (λ j. listing (to_one (occ j [])) (rest j)) (listed_in g (take k l)) (listed_in g (take (suc k) l)) marks (c rest small e) i v
        f.within
        (listed_more k i h ∙ simp (eq-eqb (buffer_address g i) (get_or l k 0) (sym f.at)) (omega arith))
        (λ j o. listed_more k j h
        ∙ simp (ne_eqb (buffer_address g j) (get_or l k 0) (λ z. no_other g some (get_or l k 0) i j b o (sym z))) (omega arith))
        (d ∙ ap with_listing (ap (λ (a : List ℕ). get_or a i 0) (c rest small e) ∙ area_at g.count (with_listed g (take k l) rest) [] i f.within)
        ∙ listing_more (to_one (occ i [])) (rest i) (listed_in g (take k l) i) (one_most (occ i [])) (small i)))

  -- word k is no buffer's
  pub listed_miss : (k : ℕ) (entry marks : List ℕ) → k < length l → Listed k entry marks → ((i : ℕ) → i < g.count → get_or l k 0 ≡ buffer_address g i → ⊥)
      → Listed (suc k) entry marks
  listed_miss k entry marks h c o rest small e =
      counts_miss g.count (λ j. listing (to_one (occ j [])) (rest j)) (listed_in g (take k l)) (listed_in g (take (suc k) l)) marks (c rest small e)
      (λ i b. listed_more k i h ∙ simp (ne_eqb (buffer_address g i) (get_or l k 0) (λ z. o i b (sym z))) (omega arith))

  -- whether every word is a buffer's address: from word k on, and from the next
  module _ (k : ℕ) (h : k < length l) where
    pub all_hit : (i : ℕ) → buffer_of g (get_or l k 0) ≡ Some i → all_buffers g (drop k l) ≡ all_buffers g (drop (k + 1) l)
    unfolding all_buffers
    all_hit i e = rw (add-one, drop-cons l k 0 h, e)

    pub all_miss : buffer_of g (get_or l k 0) ≡ None → all_buffers g (drop k l) ≡ false
    unfolding all_buffers
    all_miss e = rw (drop-cons l k 0 h, e)

  pub all_end : (k : ℕ) → k ≡ length l → all_buffers g (drop k l) ≡ true
  unfolding all_buffers
  all_end k e = rw (e, drop-length l)
