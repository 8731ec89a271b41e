-- The format of a record. Assumes nothing.
use Rattle.std.specs.Prelude.{List, ◌++◌, ℕ, ◌+◌, ◌-◌, ◌*◌, ◌/◌, ◌%◌, ◌≤◌, replicate}
use Rattle.std.proofs.lemmas.List.Edits.{sets}
use Rattle.words.specs.Word.{bytes_of, number_at}
use Rattle.tags.specs.Format.{by_profile, word_bytes, word_at}
use Rattle.tags.specs.declared.format.Format.{Format}
use Rattle.tags.specs.declared.format.Profile.{Profile}
use Rattle.area.specs.declared.record.Stamp.{Stamp}

-- A2, U2 (a record has 96 bytes, or in userland's profile 100)
unfoldable pub record_size : Profile → ℕ
record_size p = by_profile p 96 100

-- A2 (record j lies in an area of so many bytes)
abbrev pub RecordIn : Profile → ℕ → ℕ → Type 0
RecordIn p j len = j * record_size p + record_size p ≤ len

-- A3 (the offsets of its words)
abbrev pub next_at : ℕ
next_at = 0

abbrev pub buffer_at : ℕ
buffer_at = 4

abbrev pub stamp_at : ℕ
stamp_at = 16

abbrev pub thread_at : ℕ
thread_at = 24

-- A2, A3 (the word at an offset of record j)
unfoldable pub record_word : Format → List ℕ → ℕ → ℕ → ℕ
record_word f records j offset = word_at f records (j * record_size f.profile + offset)

-- A3 (the next word of record j)
abbrev pub next_word : Format → List ℕ → ℕ → ℕ
next_word f records j = record_word f records j next_at

-- A3 (the buffer address of record j: the buffer that it names)
abbrev pub address_word : Format → List ℕ → ℕ → ℕ
address_word f records j = record_word f records j buffer_at

-- A3 (the timestamp of record j, one number of eight bytes), its high half and its low half
unfoldable pub stamp_number : Format → List ℕ → ℕ → ℕ
stamp_number f records j = number_at f.order 8 records (j * record_size f.profile + stamp_at)

abbrev pub high_half : ℕ → ℕ
high_half stamp = stamp / 4294967296

abbrev pub low_half : ℕ → ℕ
low_half stamp = stamp % 4294967296

-- K8 (what a call is stamped with: its uptime and its thread)
abbrev pub stamp_of : ℕ → ℕ → Stamp
stamp_of uptime thread = record { uptime = uptime; thread = thread }

-- K7 (the next word), in record j
unfoldable pub with_next : Format → List ℕ → ℕ → ℕ → List ℕ
with_next f records j next = sets records (j * record_size f.profile + next_at) (word_bytes f next)

-- K8 (the stamp: timestamp, whose high half is 0 since an uptime is a word, and thread), in record j
unfoldable pub stamped : Format → List ℕ → ℕ → Stamp → List ℕ
stamped f records j s =
    sets (sets records (j * record_size f.profile + stamp_at) (bytes_of f.order 8 s.uptime))
    (j * record_size f.profile + thread_at) (word_bytes f s.thread)

-- K4 (the bytes of a record that is laid out): next at 0, buffer address 4, slab 8, cache 12, and 0 up to its end
unfoldable pub record_bytes : Format → ℕ → ℕ → ℕ → List ℕ
record_bytes f next buffer cache =
    word_bytes f next ++ word_bytes f buffer ++ word_bytes f 0 ++ word_bytes f cache ++ replicate (record_size f.profile - stamp_at) 0
