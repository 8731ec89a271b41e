-- A record's words, by its index and by its address, and what a call writes for a record. Assumes nothing.
use mathlib.Core.Path.{◌≡◌, refl, sym, ap, ◌∙◌}
use mathlib.Core.Logic.{◌≢◌, inl, inr}
use mathlib.Core.List.{List, ◌++◌}
use Prim.Native.Nat.{ℕ, ◌+◌, ◌-◌, ◌*◌, ◌%◌, ◌≤◌, ◌<◌}
use native.Mathlib.Omega.{arith}
use lib.ListN.{length, replicate, take, drop, length-append, length-replicate, length-take, length-drop}
use lib.Seq.{sets, length-sets}
use borrow.Rule.Slice.PartMut.{put_mid}
use Rattle.words.specs.Word.{part, flat, bytes_of, number, number_at}
use Rattle.words.proofs.Std.{written}
use Rattle.words.proofs.Parts.{sets-next, sets-whole, part-lent, part_back, part-place, part_field, part-part, part_left, part_right, part_all, part_front, part-flat}
use Rattle.words.proofs.Numbers.{length_bytes_of, number_back, number_at_written}
use Rattle.tags.specs.Format.{word_bytes, word_at}
use Rattle.tags.specs.declared.format.Format.{Format}
use Rattle.tags.specs.declared.format.Profile.{Profile}
use Rattle.tags.specs.declared.format.Profile.TheVariants.{Kernel, Userland}
use Rattle.area.specs.Record.{record_size, record_word, next_at, buffer_at, stamp_at, thread_at, with_next, stamped, record_bytes}
use Rattle.area.specs.Place.{place_address}
use Rattle.area.specs.declared.record.Stamp.{Stamp}

-- ---- the length

-- a record has all its words before the stack
pub record_least : (p : Profile) → 40 ≤ record_size p
unfolding record_size
record_least Kernel = omega arith
record_least Userland = omega arith

pub record_most : (p : Profile) → record_size p ≤ 100
unfolding record_size
record_most Kernel = omega arith
record_most Userland = omega arith

-- and has whole words
pub record_words : (p : Profile) → record_size p % 4 ≡ 0
unfolding record_size
record_words Kernel = refl
record_words Userland = refl

-- the word that stands `offset` bytes behind the address of record j is the record's word at that offset
pub record_at_offset : (f : Format) (l : List ℕ) (base address j offset : ℕ)
    → address ≡ place_address base (record_size f.profile) j + offset → word_at f l (address - base) ≡ record_word f l j offset
unfolding record_word
record_at_offset f l base address j offset e =
    let o : address - base ≡ j * record_size f.profile + offset = omega arith in
    ap (word_at f l) o

-- ---- the stamp

pub length-stamped : (f : Format) (r : List ℕ) (j : ℕ) (s : Stamp) → length (stamped f r j s) ≡ length r
unfolding stamped
length-stamped f r j s = simp length-sets

-- the stamp and the thread stand behind the next word and the address word
pub stamped_word : (f : Format) (r : List ℕ) (j : ℕ) (s : Stamp) (i o : ℕ) → o + 4 ≤ stamp_at → record_word f (stamped f r j s) i o ≡ record_word f r i o
unfolding record_word stamped number_at
stamped_word f r j s i o h =
    let stamp = bytes_of f.order 8 s.uptime in
    let thread = word_bytes f s.thread in
    let l : length stamp ≡ 8 = length_bytes_of f.order 8 s.uptime in
    let m : length thread ≡ 4 = length_bytes_of f.order 4 s.thread in
    let least = record_least f.profile in
    ap (number f.order)
    (part_field thread (sets r (j * record_size f.profile + stamp_at) stamp) (record_size f.profile) j thread_at i o 4
    (omega arith) (omega arith) (inl (omega arith))
    ∙ part_field stamp r (record_size f.profile) j stamp_at i o 4 (omega arith) (omega arith) (inl h))

-- ---- the next word

pub length_with_next : (f : Format) (r : List ℕ) (j w : ℕ) → length (with_next f r j w) ≡ length r
unfolding with_next
length_with_next f r j w = simp length-sets

-- the next word of record j is written, and no other record's
pub next-same : (f : Format) (r : List ℕ) (j w : ℕ) → w < 4294967296 → j * record_size f.profile + 4 ≤ length r
    → record_word f (with_next f r j w) j next_at ≡ w
unfolding record_word with_next
next-same f r j w h l = number_at_written f.order 4 r (j * record_size f.profile + next_at) w (omega arith) h

pub next_other : (f : Format) (r : List ℕ) (j w i : ℕ) → i ≢ j → record_word f (with_next f r j w) i next_at ≡ record_word f r i next_at
unfolding record_word number_at with_next
next_other f r j w i ne =
    let l : length (word_bytes f w) ≡ 4 = length_bytes_of f.order 4 w in
    ap (number f.order) (part-place (word_bytes f w) r (record_size f.profile) j next_at i next_at 4 (omega (arith, record_least f.profile))
    (omega (arith, record_least f.profile)) ne)

-- and no buffer's address
pub next_name : (f : Format) (r : List ℕ) (j w i : ℕ) → record_word f (with_next f r j w) i buffer_at ≡ record_word f r i buffer_at
unfolding record_word number_at with_next
next_name f r j w i =
    let l : length (word_bytes f w) ≡ 4 = length_bytes_of f.order 4 w in
    ap (number f.order) (part_field (word_bytes f w) r (record_size f.profile) j next_at i buffer_at 4 (omega (arith, record_least f.profile))
    (omega (arith, record_least f.profile)) (inr (omega arith)))

-- ---- a whole record

pub length-record_bytes : (f : Format) (next buffer cache : ℕ) → length (record_bytes f next buffer cache) ≡ record_size f.profile
unfolding record_bytes
length-record_bytes f next buffer cache = simp (length-append, length_bytes_of, length-replicate) (omega (arith, record_least f.profile))

-- four words in a row over a record's bytes, and 0 behind them, are a record
pub record_run : (f : Format) (l a b c d z : List ℕ) (m next buffer cache : ℕ)
    → length l ≡ record_size f.profile
    → a ≡ sets l 0 (word_bytes f next)
    → b ≡ sets a 4 (word_bytes f buffer)
    → c ≡ sets b 8 (word_bytes f 0)
    → d ≡ sets c 12 (word_bytes f cache)
    → m + stamp_at ≡ record_size f.profile
    → z ≡ replicate (length (take m (drop stamp_at d))) 0
    → put_mid stamp_at m d z ≡ record_bytes f next buffer cache
unfolding record_bytes
record_run f l a b c d z m next buffer cache el ea eb ec ed em ez =
    let p₁ = word_bytes f next in
    let p₂ = p₁ ++ word_bytes f buffer in
    let p₃ = p₂ ++ word_bytes f 0 in
    let p₄ = p₃ ++ word_bytes f cache in
    let n = record_size f.profile in
    let q₂ = sets-next l p₁ (word_bytes f buffer) 0 4 4 ea (length_bytes_of f.order 4 next) refl eb in
    let q₃ = sets-next l p₂ (word_bytes f 0) 0 8 8 q₂ (simp (length-append, length_bytes_of)) refl ec in
    let q₄ = sets-next l p₃ (word_bytes f cache) 0 12 12 q₃ (simp (length-append, length_bytes_of)) refl ed in
    let long : length d ≡ n = rw (q₄, length-sets) el in
    let rest : m ≡ record_size f.profile - stamp_at = omega arith in
    let count : length (take m (drop stamp_at d)) ≡ m = simp (length-take, length-drop) (omega arith) in
    let zeros : length (replicate {A = ℕ} m 0) ≡ m = length-replicate m 0 in
    let q : put_mid stamp_at m d z ≡ sets d stamp_at (replicate (record_size f.profile - stamp_at) 0) =
    rw (ez, count, ← rest) (written stamp_at m d (replicate m 0) (sym zeros) (omega arith)) in
    let e : put_mid stamp_at m d z ≡ sets l 0 (record_bytes f next buffer cache) =
    sets-next l p₄ (replicate (record_size f.profile - stamp_at) 0) 0 stamp_at stamp_at q₄ (simp (length-append, length_bytes_of)) refl q in
    rw e (sets-whole l (record_bytes f next buffer cache) (length-record_bytes f next buffer cache ∙ sym el))

-- a record is lent as a part of the area, and comes back in its place
pub ruleset lent_record = (part-lent, part_back, length-record_bytes)

-- its next word, and its buffer's address
module _ (f : Format) (next buffer cache : ℕ) where
  first_two : (o w : ℕ) → part (word_bytes f next ++ word_bytes f buffer) o 4 ≡ word_bytes f w → o + 4 ≤ 8 → w < 4294967296
      → word_at f (record_bytes f next buffer cache) o ≡ w
  unfolding record_bytes number_at
  first_two o w e h fits =
      let a = word_bytes f next ++ word_bytes f buffer in
      let l : length a ≡ 8 = simp (length-append, length_bytes_of) in
      let p = word_bytes f 0 in
      let q = word_bytes f cache in
      ap (number f.order)
      (part_left (a ++ p ++ q) (replicate (record_size f.profile - stamp_at) 0) o 4 (simp (length-append, length_bytes_of) (omega arith))
      ∙ part_left (a ++ p) q o 4 (simp (length-append, length_bytes_of) (omega arith))
      ∙ part_left a p o 4 (omega arith)
      ∙ e)
      ∙ number_back f.order 4 w fits

  pub whole-next : next < 4294967296 → word_at f (record_bytes f next buffer cache) next_at ≡ next
  whole-next = first_two next_at next (part_front (word_bytes f next) (word_bytes f buffer) 4 (length_bytes_of f.order 4 next)) (omega arith)

  pub whole_name : buffer < 4294967296 → word_at f (record_bytes f next buffer cache) buffer_at ≡ buffer
  whole_name =
      first_two buffer_at buffer
      (part_right (word_bytes f next) (word_bytes f buffer) buffer_at 0 4 (omega (arith, length_bytes_of f.order 4 next))
      ∙ part_all (word_bytes f buffer) 4 (length_bytes_of f.order 4 buffer))
      (omega arith)

-- the words of records that are written one behind the other
pub flat_word : (f : Format) (g : ℕ → List ℕ) → ((i : ℕ) → length (g i) ≡ record_size f.profile) → (n j o : ℕ) → j < n → o + 4 ≤ record_size f.profile
    → record_word f (flat n g) j o ≡ word_at f (g j) o
unfolding record_word number_at
flat_word f g long n j o h k =
    ap (number f.order)
    (sym (part-part (flat n g) (j * record_size f.profile) (record_size f.profile) o 4 k)
    ∙ ap (λ (x : List ℕ). part x o 4) (part-flat (record_size f.profile) g long n j h))
