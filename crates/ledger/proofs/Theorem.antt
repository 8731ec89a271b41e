-- The theorem: after an accepted lay out and any list of calls the claim holds. Assumes nothing.
use Rattle.std.specs.Prelude.{Some, Result, Ok, Err, Option, None}
use Rattle.tags.specs.declared.refusal.Refusal.{Refusal}
use mathlib.Core.Path.{◌≡◌, refl, sym, ap, ◌∙◌}
use mathlib.Core.Logic.{◌≢◌, ◌↔◌}
use mathlib.Core.Bool.{true, false, and-eq-true_iff}
use mathlib.Core.List.{List, [], ◌∷◌}
use Prim.Native.Nat.{ℕ, ◌+◌, ◌<◌}
use native.Mathlib.Decide.{dec_lt}
use native.Mathlib.Omega.{arith}
use borrow.Author.Tests.{not-true}
use Rattle.words.specs.Word.{part}
use Rattle.tags.specs.Verdict.{verdict_number, is_fault}
use Rattle.tags.specs.declared.format.Profile.{Profile}
use Rattle.chunks.specs.Chunk.{lawful_size}
use Rattle.chunks.specs.declared.chunk.Grant.{Grant}
use Rattle.area.specs.declared.record.Stamp.{Stamp}
use Rattle.sheet.specs.Areas.{Areas, Outcome, is_nobody}
use Rattle.geometry.specs.Sheet.{laid_sheet, headed, buffer_address}
use Rattle.chain.specs.Chain.{Chain, occ, chain_of}
use Rattle.chain.specs.Pairing.{own_of}
use Rattle.verdicts.specs.Judge.{verdict_of}
use Rattle.allocation.specs.Allocate.{allocate_of}
use Rattle.client.specs.Show.{shown_of, shown}
use Rattle.geometry.specs.declared.sheet.Sheet.{Sheet}
use Rattle.tags.specs.declared.refusal.Refusal.TheVariants.{NoRoom}
use Rattle.chain.proofs.MetRecords.{occ-none}
use Rattle.ledger.specs.Ledger.{Entry, RunState, lawful_request, image_at, times_met, is_out, Sound, Claim}
use Rattle.ledger.proofs.Invariant.{Laid, outs, Invariant, opens}
use Rattle.ledger.proofs.Found.{entered_sound, image, own_is, chain-is, verdict_is, found-count}
use Rattle.ledger.proofs.Calls.{none_out, nobody, taken_below, taken_in, allocate-none, allocate-some, show-out, show_in, client-is}
use Rattle.ledger.proofs.Start.{accepted, laid_known}
use Rattle.ledger.proofs.Always.{RunInvariant, by_address, nobody-same, run_keeps, begun_keeps}

times_met_lem : (o : Option Entry) (k : ℕ) → k + outs o ≡ 1 → k ≡ times_met o
times_met_lem None k e = omega arith
times_met_lem (Some o) k e = omega arith

is-out : (o : Option Entry) → outs o ≡ 1 → is_out o ≡ true
is-out None e = absurd (omega arith)
is-out (Some o) e = refl

-- what is not out is not out
not-out : (o : Option Entry) → o ≡ None → is_out o ≡ true → ⊥
not-out None e f = let z : ◌≡◌ {A = ℕ} 0 1 = cc in omega arith
not-out (Some o) e f = let z : ◌≡◌ {A = ℕ} 0 1 = cc in omega arith

not_entry : (o : Option Entry) (l : Entry) → o ≡ None → o ≡ Some l → ⊥
not_entry o l e f = let z : ◌≡◌ {A = ℕ} 0 1 = cc in omega arith

-- what a request of lawful size is
lawful_request_lem : (p : Profile) (size : ℕ) (q : Grant) (t : Stamp) → lawful_request p size q t ≡ true
    → (is_nobody t.thread ≡ false) × (lawful_size p size q ≡ true)
lawful_request_lem p size q t e = let k = (and-eq-true_iff _ _).0 e in (not-true _ k.0, k.1)

module _ (g : Sheet) (laid : Laid g) where
  -- ---- each clause, from the invariant

  module _ {head : ℕ} {a : Areas} {out : ℕ → Option Entry} {chain : List ℕ} (v : Invariant g head a out chain) where
    met-is : (chain_of (image g laid v)).met ≡ chain
    met-is = ap (λ (c : Chain). c.met) (chain-is g laid v)

    no_fault_lem : (i : ℕ) → i < g.count → is_fault (verdict_number (verdict_of (image g laid v) i)) ≡ false
    no_fault_lem i h = rw (verdict_is g laid v i h) (entered_sound (out (buffer_address g i)))

    -- what is out is a buffer
    out-buffer : (x : ℕ) → is_out (out x) ≡ true → (i : ℕ) × ((i < g.count) × (x ≡ buffer_address g i))
    out-buffer =
        by_address g laid out (λ x. is_out (out x) ≡ true → (i : ℕ) × ((i < g.count) × (x ≡ buffer_address g i)))
        (λ x e f. absurd (not-out (out x) (v.stray x e) f))
        (λ j h e f. (j, (h, refl)))
        (λ j h o e f. (j, (h, refl)))

    times : (i : ℕ) → i < g.count → occ i (chain_of (image g laid v)).met ≡ times_met (out (buffer_address g i))
    times i h = rw met-is (times_met_lem (out (buffer_address g i)) (occ i chain) (v.each i h))

    only_those_lem : (j : ℕ) → occ j (chain_of (image g laid v)).met ≢ 0
        → (i : ℕ) × ((i < g.count) × ((own_of (image g laid v) i ≡ Some j) × (out (buffer_address g i) ≡ None)))
    only_those_lem j ne = go (dec_lt j g.count) (rw met-is at ne)
      where
        go : Dec (j < g.count) → occ j chain ≢ 0
            → (i : ℕ) × ((i < g.count) × ((own_of (image g laid v) i ≡ Some j) × (out (buffer_address g i) ≡ None)))
        go (yes h) m = (j, (h, (own_is g laid v j h, none_out (out (buffer_address g j)) (omega (arith, v.each j h)))))
        go (no h) m = absurd (m (v.only j (omega arith)))

    abbrev Shown : ℕ → Entry → Type 0
    Shown x o =
        (buffer : ℕ)
        × ((start : ℕ)
        × ((len : ℕ) × ((shown_of g.format.profile a x ≡ Ok (shown buffer start len)) × (part a.heap (buffer + start) len ≡ o.client))))

    shows : (x : ℕ) (o : Entry) → out x ≡ Some o → Shown x o
    shows x o =
        by_address g laid out
        (λ y. (o : Entry) → out y ≡ Some o → Shown y o)
        (λ y e o f. absurd (not_entry (out y) o (v.stray y e) f))
        (λ j h e o f. absurd (not_entry (out (buffer_address g j)) o e f))
        (λ j h p e o f. (_, (_, (_, (show-out g laid v j h o f, client-is g laid v j h o f)))))
        x o

  -- a request of lawful size, by whether a buffer is left on the chain
  answer-none : {head : ℕ} {a : Areas} {out : ℕ → Option Entry} → Invariant g head a out [] → (q : Grant) (t : Stamp)
      → lawful_request g.format.profile g.size q t ≡ true → (allocate_of g.format.profile a q t).answer ≡ Err NoRoom
  answer-none v q t e =
      let k = lawful_request_lem g.format.profile g.size q t e in
      ap (λ (r : Outcome (Result ℕ Refusal)). r.answer) (allocate-none g laid v q t k.0 k.1)

  answer-some : {head : ℕ} {a : Areas} {out : ℕ → Option Entry} {j : ℕ} {js : List ℕ} → Invariant g head a out (j ∷ js) → (q : Grant) (t : Stamp)
      → lawful_request g.format.profile g.size q t ≡ true
      → (allocate_of g.format.profile a q t).answer ≡ Ok (buffer_address g j)
  answer-some v q t e =
      let k = lawful_request_lem g.format.profile g.size q t e in
      ap (λ (r : Outcome (Result ℕ Refusal)). r.answer) (allocate-some g laid v q t k.0 k.1)

  full : {head : ℕ} {a : Areas} {out : ℕ → Option Entry} (chain : List ℕ) → Invariant g head a out chain → (q : Grant) (t : Stamp)
      → lawful_request g.format.profile g.size q t ≡ true
      → ((allocate_of g.format.profile a q t).answer ≡ Err NoRoom) ↔ ((i : ℕ) → i < g.count → is_out (out (buffer_address g i)) ≡ true)
  full {out = out} [] v q t e = (
    λ _ i h. is-out (out (buffer_address g i)) (omega (arith, v.each i h, occ-none i)),
    λ _. answer-none v q t e,
  )
  full {out = out} (j ∷ js) v q t e = (
    λ f. absurd
        (let s = answer-some v q t e in let z : ◌≡◌ {A = ℕ} 0 1 = cc in omega arith),
    λ f. absurd (not-out (out (buffer_address g j)) (taken_in g laid v) (f j (taken_below g laid v))),
  )

  accepts : {head : ℕ} {a : Areas} {out : ℕ → Option Entry} (chain : List ℕ) → Invariant g head a out chain → (q : Grant) (t : Stamp)
      → lawful_request g.format.profile g.size q t ≡ true → ((allocate_of g.format.profile a q t).answer ≢ Err NoRoom)
      → (i : ℕ) × ((i < g.count) × ((out (buffer_address g i) ≡ None) × ((allocate_of g.format.profile a q t).answer ≡ Ok (buffer_address g i))))
  accepts [] v q t e ne = absurd (ne (answer-none v q t e))
  accepts (j ∷ js) v q t e ne = (
    j,
    (taken_below g laid v, (taken_in g laid v, answer-some v q t e)),
  )

  pub sound : (w : RunState) → RunInvariant g w → Sound g w
  sound w f =
      let v = f.invariant in
      let out = w.ledger.out in
      record {
        sheet = headed g f.head;
        only_head = refl;
        opens = opens g laid v;
        no_fault = no_fault_lem v;
        found = verdict_is g laid v;
        buffers = out-buffer v;
        count = f.balance
            ∙ ap (λ (x : ℕ). w.ledger.frees + x)
            (sym
            (found-count (verdict_of (image_at w (headed g f.head))) (λ i. out (buffer_address g i)) g.count
            (verdict_is g laid v)));
        ends = ap (λ (c : Chain). c.ending) (chain-is g laid v);
        own_met = λ i h. (i, (own_is g laid v i h, times v i h));
        only_those = only_those_lem v;
        shows = shows v;
        hides = λ i h e. show_in g laid v i h e;
        room = full f.chain v;
        accepts = accepts f.chain v;
        nobody = λ call n. (ap (λ (r : Outcome (Result ℕ Refusal)). r.answer) (nobody g laid v call n), nobody-same g laid call w n f);
      }

-- the claim of the ledger (B6 to B13)
pub theorem : Claim
theorem a f cache heap records size n h e calls =
    let k = accepted a f cache heap records size n e in
    let g = laid_sheet f cache heap records size n in
    let laid : Laid g = laid_known f cache heap records size n h k.0 in
    rw k.1 (sound g laid _ (run_keeps g laid calls _ (begun_keeps g laid refl)))
