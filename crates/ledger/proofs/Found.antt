-- What the invariant says of the chain, of each buffer's own record and of its verdict. Assumes nothing.
use Rattle.std.specs.Prelude.{Some, Option, None}
use mathlib.Core.Path.{◌≡◌, refl, sym, ap, ◌∙◌}
use mathlib.Core.Logic.{◌≢◌}
use mathlib.Core.Bool.{false, not}
use mathlib.Core.List.{List, [], ◌∷◌}
use Prim.Native.Nat.{ℕ, zero, suc, ◌+◌, ◌≤◌, ◌<◌}
use native.Mathlib.Decide.{ℕ_discrete}
use native.Mathlib.Omega.{arith}
use borrow.Author.Tests.{eq-eqb, ne_eqb}
use lib.Dec.{eqb}
use Rattle.words.specs.Sum.{total}
use Rattle.words.proofs.Sums.{total-same}
use Rattle.tags.specs.Tag.{tag_of, pattern_of}
use Rattle.chunks.specs.Chunk.{tag_at}
use Rattle.tags.specs.Verdict.{verdict_number, is_fault}
use Rattle.tags.specs.declared.format.Format.{Format}
use Rattle.tags.specs.declared.tag.Tag.{Tag}
use Rattle.chunks.specs.declared.chunk.Grant.{Grant}
use Rattle.chunks.specs.declared.chunk.Grant.TheVariants as grant
use Rattle.tags.specs.declared.verdict.Verdict.{Verdict}
use Rattle.tags.proofs.Tags.{state_pattern, tag_pattern}
use Rattle.sheet.specs.Areas.{Areas, Image, image_of}
use Rattle.geometry.specs.Sheet.{headed, buffer_address, record_address}
use Rattle.area.specs.Record.{address_word}
use Rattle.chain.specs.Chain.{occ, chain_of}
use Rattle.chain.proofs.MetRecords.{occ-none}
use Rattle.chain.specs.Pairing.{namers, the_one, own_in, own_of}
use Rattle.verdicts.specs.Judge.{standing, is_freed_twice, is_at_rest, rest_verdict, chained_verdict, owned_verdict, verdict_of}
use Rattle.geometry.specs.declared.sheet.Sheet.{Sheet}
use Rattle.tags.specs.declared.ending.Ending.TheVariants.{End}
use Rattle.area.proofs.Places.{address_one}
use Rattle.chain.proofs.Chains.{linked_chain}
use Rattle.ledger.specs.Ledger.{Entry, as_granted, as_entered, allocated_one, found_allocated}
use Rattle.ledger.proofs.Chunks.{chunk_for, state_for, LawfulEntry, tag_for, granted_verdict, free_sound}
use Rattle.ledger.proofs.Invariant.{Laid, outs, Invariant, record_fits, records-some, chunk_some, once}

-- ---- own records

namers-none : (word : ℕ → ℕ) (m a : ℕ) → ((j : ℕ) → j < m → word j ≢ a) → namers word m a ≡ []
unfolding namers
namers-none word zero a h = refl
namers-none word (suc m) a h = rw (ne_eqb (word m) a (h m (omega arith))) (namers-none word m a (λ j l. h j (omega arith)))

namers_one : (word : ℕ → ℕ) (m a i : ℕ) → i < m → word i ≡ a → ((j : ℕ) → j < m → j ≢ i → word j ≢ a) → namers word m a ≡ i ∷ []
unfolding namers
namers_one word zero a i l e h = absurd (omega arith)
namers_one word (suc m) a i l e h = go (ℕ_discrete i m) (namers_one word m a i)
  where
    go : Dec (i ≡ m) → (i < m → word i ≡ a → ((j : ℕ) → j < m → j ≢ i → word j ≢ a) → namers word m a ≡ i ∷ []) → namers word (suc m) a ≡ i ∷ []
    go (yes q) ih =
        rw (eq-eqb (word m) a (ap word (sym q) ∙ e), namers-none word m a (λ j k. h j (omega arith) (λ z. omega arith)), q)
    go (no ne) ih =
        rw (ne_eqb (word m) a (h m (omega arith) (λ z. ne (sym z)))) (ih (omega arith) e (λ j k. h j (omega arith)))

-- ---- the tag and the verdict of a chunk as the ledger has it

module _ (f : Format) (size a : ℕ) (few : size ≤ 4096) (word : a < 4294967296) where
  pub first_for : (o : Option Entry) → LawfulEntry f.profile size o → (tag_at f (chunk_for f size a o)).t0 ≡ a
  unfolding tag_of
  first_for o l = ap (λ (t : Tag). t.t0) (tag_for f size a few word o l)

  pub pattern_for : (o : Option Entry) → LawfulEntry f.profile size o → pattern_of (tag_at f (chunk_for f size a o)) ≡ state_pattern (state_for o)
  pattern_for o l = ap pattern_of (tag_for f size a few word o l) ∙ tag_pattern a (state_for o)

  owned_for : (o : Option Entry) → LawfulEntry f.profile size o → (k : ℕ) → k + outs o ≡ 1
      → owned_verdict f (chunk_for f size a o) a (standing (not (eqb k 0)) false 0) ≡ as_entered o
  unfolding owned_verdict chained_verdict is_freed_twice is_at_rest rest_verdict
  owned_for None l k e =
      let q : k ≡ 1 = omega arith in
      rw (pattern_for None l, first_for None l, eq-eqb a a refl, q) (free_sound f size a)
  owned_for (Some o) l k e =
      let q : k ≡ 0 = omega arith in
      rw (pattern_for (Some o) l, first_for (Some o) l, eq-eqb a a refl, q) (granted_verdict f size a few word o.grant l.0 o.client l.1)

-- what the ledger says is no fault, and is found allocated if it is out
granted_sound : (q : Grant) → is_fault (verdict_number (as_granted q)) ≡ false
granted_sound grant.Whole = refl
granted_sound (grant.Sized s) = refl

pub entered_sound : (o : Option Entry) → is_fault (verdict_number (as_entered o)) ≡ false
entered_sound None = refl
entered_sound (Some o) = granted_sound o.grant

module _ (g : Sheet) (laid : Laid g) {head : ℕ} {a : Areas} {out : ℕ → Option Entry} {chain : List ℕ} (v : Invariant g head a out chain) where
  -- the image
  abbrev pub image : Image
  image = image_of a (headed g head)

  pub own_is : (i : ℕ) → i < g.count → own_of image i ≡ Some i
  unfolding own_in
  own_is i h =
      ap the_one
      (namers_one (address_word g.format a.records) g.count (buffer_address g i) i h (v.names i h)
      (λ j k ne e. ne (address_one g.heap_base g.chunk j i (chunk_some g laid) (sym (v.names j k) ∙ e))))

  pub chain-is : chain_of image ≡ record { met = chain; ending = End }
  chain-is = linked_chain (headed g head) a.records (records-some g laid) chain v.linked (once g laid v)

  pub verdict_is : (i : ℕ) → i < g.count → verdict_of image i ≡ as_entered (out (buffer_address g i))
  unfolding verdict_of
  verdict_is i h =
      rw (own_is i h, chain-is, v.chunks i h, occ-none (buffer_address g i))
      (owned_for g.format g.size (record_address g i) laid.law.sizes.most (record_fits g laid i h)
      (out (buffer_address g i)) (v.entries i h) (occ i chain) (v.each i h))

granted_one : (q : Grant) → allocated_one (as_granted q) ≡ 1
granted_one grant.Whole = refl
granted_one (grant.Sized s) = refl

entered_one : (o : Option Entry) → allocated_one (as_entered o) ≡ outs o
entered_one None = refl
entered_one (Some o) = granted_one o.grant

-- the number found allocated is the number out
pub found-count : (v : ℕ → Verdict) (o : ℕ → Option Entry) (n : ℕ) → ((i : ℕ) → i < n → v i ≡ as_entered (o i))
    → found_allocated v n ≡ total (λ i. outs (o i)) n
found-count v o n h = total-same (λ i. allocated_one (v i)) (λ i. outs (o i)) n (λ i l. ap allocated_one (h i l) ∙ entered_one (o i))
