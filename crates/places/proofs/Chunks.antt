-- The chunk of buffer i, which stands at `at`, as it is lent and given back. Assumes nothing.
use mathlib.Core.Path.{◌≡◌, sym, ap, subst, ◌∙◌}
use mathlib.Core.List.{List, ◌++◌}
use Prim.Native.Nat.{ℕ, ◌+◌, ◌-◌, ◌≤◌, ◌<◌}
use native.Mathlib.Omega.{arith}
use lib.ListN.{length, take, drop}
use lib.Seq.{sets}
use Rattle.words.specs.Word.{part}
use Rattle.words.proofs.Parts.{length_part, part-lent, part_back}
use Rattle.chunks.specs.Chunk.{ChunkLength, buffer_size}
use Rattle.geometry.specs.Sheet.{heap_length, chunk_place}
use Rattle.geometry.specs.Limits.{Lawful}
use Rattle.sheet.specs.Areas.{chunk_in}
use Rattle.geometry.specs.declared.sheet.Sheet.{Sheet}
use Rattle.geometry.proofs.Sheets.{chunk_inside, chunk_small, chunk_length}

-- its end is a small number
pub small : (g : Sheet) (i at : ℕ) → Lawful g → i < g.count → at ≡ chunk_place g i → at + g.chunk ≤ 65536
small g i at law h e = let c = chunk_small g law i h in omega arith

-- it is as long as the sheet says
pub chunk_long : (l : List ℕ) (g : Sheet) (i : ℕ) → Lawful g → length l ≡ heap_length g → i < g.count → length (chunk_in g l i) ≡ g.chunk
chunk_long l g i law long h = let c = chunk_inside g law i h in length_part l (chunk_place g i) g.chunk (omega arith)

module _ (l : List ℕ) (g : Sheet) (i at : ℕ) (law : Lawful g) (long : length l ≡ heap_length g) (h : i < g.count) (e : at ≡ chunk_place g i) where
  -- it lies in the heap
  pub inside : at + g.chunk ≤ length l
  inside = let c = chunk_inside g law i h in omega arith

  -- the part that is lent
  abbrev lent : List ℕ
  lent = take (at + g.chunk - at) (drop at l)

  pub lent_is : take (at + g.chunk - at) (drop at l) ≡ chunk_in g l i
  lent_is = part-lent l at g.chunk ∙ ap (λ (x : ℕ). part l x g.chunk) e

  lent-long : length lent ≡ g.chunk
  lent-long = rw part-lent (length_part l at g.chunk inside)

  pub lent_size : buffer_size (take (at + g.chunk - at) (drop at l)) ≡ g.size
  lent_size = let k = lent-long in let c = law.sizes.chunks in omega arith

  pub lent-lawful : ChunkLength (length (take (at + g.chunk - at) (drop at l)))
  lent-lawful = subst ChunkLength (sym lent-long) (chunk_length g law)

  -- a chunk f of the lent one's size comes back in its place
  pub chunk_back : (f : ℕ → List ℕ) (ys : List ℕ) → ((n : ℕ) → length (f n) ≡ n + 16) → ys ≡ f (buffer_size lent)
      → take at l ++ (ys ++ drop (at + g.chunk - at) (drop at l)) ≡ sets l (chunk_place g i) (f g.size)
  chunk_back f ys size eys =
      let n : at + g.chunk - at ≡ g.chunk = omega arith in
      let c = law.sizes.chunks in
      rw (eys ∙ ap f lent_size, n) (part_back l (f g.size) at g.chunk (size g.size ∙ sym c) inside)
      ∙ ap (λ (x : ℕ). sets l x (f g.size)) e
