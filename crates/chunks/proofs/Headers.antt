-- The laws of the header, over the profile. Assumes nothing.
use mathlib.Core.Path.{◌≡◌, refl, sym, ap, ◌∙◌}
use mathlib.Core.Bool.{true, ◌&&◌, and-eq-true_iff}
use mathlib.Core.List.{List, [], ◌++◌}
use Prim.Native.Nat.{ℕ, ◌+◌, ◌-◌, ◌%◌, ◌≤◌, ◌<◌}
use native.Mathlib.Nat.{zero-add}
use native.Mathlib.Omega.{arith}
use borrow.Author.Tests.{eq-eqb, le-leb, leb-true}
use lib.Dec.{eqb, leb}
use lib.ListN.{length, length-append}
use lib.Seq.{sets}
use Rattle.words.specs.Word.{part, number, number_at}
use Rattle.words.proofs.Numbers.{length_bytes_of, number_back}
use Rattle.words.proofs.Parts.{part-part, part_left, part_right, part_all, sets-next}
use Rattle.tags.specs.Format.{by_profile, word_bytes, word_at}
use Rattle.tags.specs.declared.format.Format.{Format}
use Rattle.tags.specs.declared.format.Profile.{Profile}
use Rattle.tags.specs.declared.format.Profile.TheVariants.{Kernel, Userland}
use Rattle.chunks.specs.Header.{header_size, header_sum, header_bytes, header_right}

-- a header has whole words, two at the most
pub header_words : (p : Profile) → header_size p % 4 ≡ 0
unfolding header_size
header_words Kernel = refl
header_words Userland = refl

pub header_short : (p : Profile) → header_size p ≤ 8
unfolding header_size
header_short Kernel = omega arith
header_short Userland = omega arith

pub length-header_bytes : (f : Format) (c : ℕ) → length (header_bytes f c) ≡ header_size f.profile
unfolding header_bytes header_size
length-header_bytes f c = go f.profile
  where
    go : (p : Profile) → length (by_profile p [] (word_bytes f c ++ word_bytes f (header_sum - c))) ≡ by_profile p 0 8
    go Kernel = refl
    go Userland = simp (length-append, length_bytes_of)

-- two words in a row are a header
pub header_run : (f : Format) (l a b : List ℕ) (c : ℕ) → f.profile ≡ Userland → a ≡ sets l 0 (word_bytes f c)
    → b ≡ sets a 4 (word_bytes f (header_sum - c)) → b ≡ sets l 0 (header_bytes f c)
unfolding header_bytes
header_run f l a b c e ea eb = rw e (sets-next l (word_bytes f c) (word_bytes f (header_sum - c)) 0 4 4 ea (length_bytes_of f.order 4 c) refl eb)

-- a right header is in its coded size, and leaves a request of one byte or more
pub right_coded : (f : Format) (buffer : List ℕ) (c : ℕ) → header_right f buffer c ≡ true → header_size f.profile ≤ c
unfolding header_right header_size
right_coded f buffer c e = go f.profile e
  where
    go : (p : Profile) → by_profile p true (leb 9 c && (eqb (word_at f buffer 0) c && eqb (word_at f buffer 4) (header_sum - c))) ≡ true → by_profile p 0 8 ≤ c
    go Kernel t = omega arith
    go Userland t = omega (arith, leb-true 9 c ((and-eq-true_iff (leb 9 c) _).0 t).0)

pub right_some : (f : Format) (buffer : List ℕ) (c : ℕ) → 1 ≤ c → header_right f buffer c ≡ true → header_size f.profile < c
unfolding header_right header_size
right_some f buffer c some e = go f.profile e
  where
    go : (p : Profile) → by_profile p true (leb 9 c && (eqb (word_at f buffer 0) c && eqb (word_at f buffer 4) (header_sum - c))) ≡ true → by_profile p 0 8 < c
    go Kernel t = some
    go Userland t = leb-true 9 c ((and-eq-true_iff (leb 9 c) _).0 t).0

-- a buffer that starts with the bytes of a header has it
pub right_written : (f : Format) (buffer : List ℕ) (c : ℕ)
    → part buffer 0 (header_size f.profile) ≡ header_bytes f c → header_size f.profile < c → c ≤ header_sum
    → header_right f buffer c ≡ true
unfolding header_right header_bytes header_size number_at
right_written f buffer c e some most = go f.profile e some
  where
    word : (at v : ℕ) → at + 4 ≤ 8 → v < 4294967296 → part buffer 0 8 ≡ word_bytes f c ++ word_bytes f (header_sum - c)
        → part (word_bytes f c ++ word_bytes f (header_sum - c)) at 4 ≡ word_bytes f v → word_at f buffer at ≡ v
    word at v h fits t is =
        let first = ap (λ (x : ℕ). part buffer x 4) (sym (zero-add at)) ∙ sym (part-part buffer 0 8 at 4 h) in
        ap (number f.order) (first ∙ ap (λ (x : List ℕ). part x at 4) t ∙ is) ∙ number_back f.order 4 v fits

    go : (p : Profile) → part buffer 0 (by_profile p 0 8) ≡ by_profile p [] (word_bytes f c ++ word_bytes f (header_sum - c)) → by_profile p 0 8 < c
        → by_profile p true (leb 9 c && (eqb (word_at f buffer 0) c && eqb (word_at f buffer 4) (header_sum - c))) ≡ true
    go Kernel t h = refl
    go Userland t h =
        let a = word_bytes f c in
        let b = word_bytes f (header_sum - c) in
        let la : length a ≡ 4 = length_bytes_of f.order 4 c in
        let lb : length b ≡ 4 = length_bytes_of f.order 4 (header_sum - c) in
        let first : word_at f buffer 0 ≡ c = word 0 c (omega arith) (omega arith) t (part_left a b 0 4 (omega arith) ∙ part_all a 4 la) in
        let second : word_at f buffer 4 ≡ header_sum - c = word 4 (header_sum - c) (omega arith) (omega arith) t
        (part_right a b 4 0 4 (omega arith) ∙ part_all b 4 lb) in
        rw (le-leb 9 c h, eq-eqb _ _ first, eq-eqb _ _ second)
