-- The laws of the chain: the rule with no bound on the steps, what a chain meets, and that a linked list is the chain. Assumes nothing.
use Rattle.std.specs.Prelude.{Option, Some, None}
use mathlib.Core.Path.{◌≡◌, refl, sym, ap, ◌∙◌}
use mathlib.Core.Logic.{◌≢◌, ◌⊎◌, inl, inr, ⊎_elim}
use mathlib.Core.List.{List, [], ◌∷◌}
use Prim.Native.Nat.{ℕ, zero, suc, ◌+◌, ◌-◌, ◌≤◌, ◌<◌}
use native.Mathlib.Nat.{not-suc-le-zero}
use native.Mathlib.Decide.{ℕ_discrete}
use native.Mathlib.Omega.{arith}
use borrow.Author.Tests.{eq-eqb, ne_eqb}
use lib.ListN.{length}
use Rattle.area.specs.Place.{place_address, place_of}
use Rattle.area.specs.Record.{record_size, next_word}
use Rattle.area.proofs.Records.{record_least}
use Rattle.chain.specs.Chain.{occ, Chain, stop, meets, ChainRule, chain_from, chain_after, chain_in}
use Rattle.chain.specs.Walk.{to_one}
use Rattle.geometry.specs.Limits.{SizesOf}
use Rattle.geometry.specs.declared.sheet.Sheet.{Sheet}
use Rattle.tags.specs.Ending.{ending_value}
use Rattle.tags.specs.declared.format.Format.{Format}
use Rattle.tags.specs.declared.ending.Ending.{Ending}
use Rattle.tags.specs.declared.ending.Ending.TheVariants.{End, Broken, Again}
use Rattle.area.proofs.Places.{place_at, place_found}
use Rattle.chain.proofs.MetRecords.{occ-none, occ_cons, occ_here, occ-apart, one_most, left, left-most, left_fewer}

-- ---- the rule

-- What the rule asks, at each of its steps, of something that is to hold of every chain: of the records met already, the word it starts from and the chain.
pub record Steps (next : ℕ → ℕ) (at : ℕ → Option ℕ) (P : List ℕ → ℕ → Chain → Type 0) : Type 0 where
  pub ends : (seen : List ℕ) (w : ℕ) → w ≡ 0 → P seen w (stop End)
  pub breaks : (seen : List ℕ) (w : ℕ) → w ≢ 0 → at w ≡ None → P seen w (stop Broken)
  pub repeats : (seen : List ℕ) (w i : ℕ) → w ≢ 0 → at w ≡ Some i → occ i seen ≢ 0 → P seen w (stop (Again i))
  pub goes_on : (seen : List ℕ) (w i : ℕ) (c : Chain) → w ≢ 0 → at w ≡ Some i → occ i seen ≡ 0 → P (i ∷ seen) (next i) c → P seen w (meets i c)

place? : (p : Option ℕ) → ((i : ℕ) × (p ≡ Some i)) ⊎ (p ≡ None)
place? (Some i) = inl (i, refl)
place? None = inr refl

module _ (next : ℕ → ℕ) (at : ℕ → Option ℕ) where
  module _ (k : ℕ) (seen : List ℕ) (w : ℕ) where
    from_end : w ≡ 0 → chain_from next at (suc k) seen w ≡ stop End
    unfolding chain_from
    from_end e = simp (eq-eqb w 0 e)

    from_broken : w ≢ 0 → at w ≡ None → chain_from next at (suc k) seen w ≡ stop Broken
    unfolding chain_from
    from_broken z e = simp (ne_eqb w 0 z, e)

    from_again : (i : ℕ) → w ≢ 0 → at w ≡ Some i → occ i seen ≢ 0 → chain_from next at (suc k) seen w ≡ stop (Again i)
    unfolding chain_from
    from_again i z e m = simp (ne_eqb w 0 z, e, ne_eqb (occ i seen) 0 m)

    from-meets : (i : ℕ) → w ≢ 0 → at w ≡ Some i → occ i seen ≡ 0 → chain_from next at (suc k) seen w ≡ meets i (chain_from next at k (i ∷ seen) (next i))
    unfolding chain_from
    from-meets i z e m = simp (ne_eqb w 0 z, e, eq-eqb (occ i seen) 0 m)

  module _ (n : ℕ) (within : (w i : ℕ) → at w ≡ Some i → i < n) where
    module _ (P : List ℕ → ℕ → Chain → Type 0) (s : Steps next at P) where
      -- one step, where those after it hold
      step : (k : ℕ) (seen : List ℕ) (w : ℕ) → ((i : ℕ) → left n (i ∷ seen) < k → P (i ∷ seen) (next i) (chain_from next at k (i ∷ seen) (next i)))
          → left n seen < suc k → P seen w (chain_from next at (suc k) seen w)
      step k seen w rest h = word (ℕ_discrete w 0)
        where
          met : (i : ℕ) → w ≢ 0 → at w ≡ Some i → Dec (occ i seen ≡ 0) → P seen w (chain_from next at (suc k) seen w)
          met i z e (yes m) =
              let f = left_fewer n i seen (within w i e) m in
              rw (from-meets k seen w i z e m) (s.goes_on seen w i _ z e m (rest i (omega arith)))
          met i z e (no m) = rw (from_again k seen w i z e m) (s.repeats seen w i z e m)

          word : Dec (w ≡ 0) → P seen w (chain_from next at (suc k) seen w)
          word (yes z) = rw (from_end k seen w z) (s.ends seen w z)
          word (no z) =
              ⊎_elim
              (λ (p : (i : ℕ) × (at w ≡ Some i)). met p.0 z p.1 (ℕ_discrete (occ p.0 seen) 0))
              (λ (e : at w ≡ None). rw (from_broken k seen w z e) (s.breaks seen w z e))
              (place? (at w))

      -- what the rule hands on from step to step holds of every chain
      pub by_rule : (k : ℕ) (seen : List ℕ) (w : ℕ) → left n seen < k → P seen w (chain_from next at k seen w)
      by_rule zero seen w h = absurd (not-suc-le-zero h)
      by_rule (suc k) seen w h = step k seen w (λ i l. by_rule k (i ∷ seen) (next i) l) h

    -- any two numbers of steps that are more than the records left give the same
    pub enough : (j k : ℕ) (seen : List ℕ) (w : ℕ) → left n seen < j → left n seen < k → chain_from next at k seen w ≡ chain_from next at j seen w
    enough j k seen w hj hk =
        ap (λ (f : ℕ). chain_from next at f seen w) (let e : k ≡ suc (left n seen + (k - suc (left n seen))) = omega arith in e)
        ∙ by_rule Same
        (record {
          ends = λ seen w z d. from_end (left n seen + d) seen w z;
          breaks = λ seen w z e d. from_broken (left n seen + d) seen w z e;
          repeats = λ seen w i z e m d. from_again (left n seen + d) seen w i z e m;
          goes_on = λ seen w i c z e m h d.
              let f = left_fewer n i seen (within w i e) m in
              from-meets (left n seen + d) seen w i z e m
              ∙ ap (λ (f : ℕ). meets i (chain_from next at f (i ∷ seen) (next i))) (let e : left n seen + d ≡ suc (left n (i ∷ seen) + d) = omega arith in e)
              ∙ ap (meets i) (h d);
        })
        j seen w hj (k - suc (left n seen))
      where
        Same : List ℕ → ℕ → Chain → Type 0
        Same seen w c = (d : ℕ) → chain_from next at (suc (left n seen + d)) seen w ≡ c

-- ---- linked lists

-- the word w is the address of the first of the records l, of n records of `size` bytes, the next word of each that of the one after it, and the last next
-- word is 0
unfoldable pub Linked : (ℕ → ℕ) → ℕ → ℕ → ℕ → ℕ → List ℕ → Type 0
Linked next base size n w [] = w ≡ 0
Linked next base size n w (i ∷ l) = (i < n) × ((w ≡ place_address base size i) × Linked next base size n (next i) l)

-- ---- the chain from a word

below_more : (n i : ℕ) (l : List ℕ) → i < n → ((j : ℕ) → occ j l ≢ 0 → j < n) → (j : ℕ) → occ j (i ∷ l) ≢ 0 → Dec (j ≡ i) → j < n
below_more n i l b r j h (yes e) = omega arith
below_more n i l b r j h (no d) = r j (λ z. h (occ-apart j i l d ∙ z))

once_more : (seen : List ℕ) (i : ℕ) (l : List ℕ) → occ i seen ≡ 0 → (j : ℕ) → to_one (occ j (i ∷ seen)) + occ j l ≤ 1 → Dec (j ≡ i)
    → to_one (occ j seen) + occ j (i ∷ l) ≤ 1
once_more seen i l m j h (yes e) =
    let a : to_one (occ j (i ∷ seen)) ≡ 1 = ap (λ (k : ℕ). to_one (occ k (i ∷ seen))) e ∙ ap to_one (occ_here i seen) in
    let b : to_one (occ j seen) ≡ 0 = ap (λ (k : ℕ). to_one (occ k seen)) e ∙ ap to_one m in
    let c : occ j (i ∷ l) ≡ suc (occ j l) = ap (λ (k : ℕ). occ j (k ∷ l)) (sym e) ∙ occ_here j l in
    omega arith
once_more seen i l m j h (no d) =
    let a : to_one (occ j (i ∷ seen)) ≡ to_one (occ j seen) = ap to_one (occ-apart j i seen d) in
    omega (arith, occ-apart j i l d)

module _ (f : Format) (records : List ℕ) (base n : ℕ) where
  within : (w i : ℕ) → place_of base (record_size f.profile) n w ≡ Some i → i < n
  within w i e = (place_found base (record_size f.profile) n w i e).0

  -- The rule, with no bound on the steps.
  module _ (seen : List ℕ) (w : ℕ) where
    pub chain_end : w ≡ 0 → chain_after f records base n seen w ≡ stop End
    unfolding chain_after
    chain_end = from_end (next_word f records) (place_of base (record_size f.profile) n) n seen w

    pub chain_broken : w ≢ 0 → place_of base (record_size f.profile) n w ≡ None → chain_after f records base n seen w ≡ stop Broken
    unfolding chain_after
    chain_broken = from_broken (next_word f records) (place_of base (record_size f.profile) n) n seen w

    pub chain_again : (i : ℕ) → w ≢ 0 → place_of base (record_size f.profile) n w ≡ Some i → occ i seen ≢ 0
        → chain_after f records base n seen w ≡ stop (Again i)
    unfolding chain_after
    chain_again = from_again (next_word f records) (place_of base (record_size f.profile) n) n seen w

    pub chain-meets : (i : ℕ) → w ≢ 0 → place_of base (record_size f.profile) n w ≡ Some i → occ i seen ≡ 0
        → chain_after f records base n seen w ≡ meets i (chain_after f records base n (i ∷ seen) (next_word f records i))
    unfolding chain_after
    chain-meets i z e m =
        let h = left_fewer n i seen (within w i e) m in
        let a = left-most n seen in
        from-meets (next_word f records) (place_of base (record_size f.profile) n) n seen w i z e m
        ∙ ap (meets i)
        (enough (next_word f records) (place_of base (record_size f.profile) n) n within (suc n) n (i ∷ seen) (next_word f records i)
        (omega arith) (omega arith))

  -- what the rule hands on from step to step holds of every chain
  pub chain_by : (P : List ℕ → ℕ → Chain → Type 0) → Steps (next_word f records) (place_of base (record_size f.profile) n) P
      → (seen : List ℕ) (w : ℕ) → P seen w (chain_after f records base n seen w)
  unfolding chain_after
  chain_by P s seen w =
      let a = left-most n seen in
      by_rule (next_word f records) (place_of base (record_size f.profile) n) n within P s (suc n) seen w (omega arith)

  -- and, of the records met, what holds of none and is kept by one more
  pub met_by_lem : (P : List ℕ → List ℕ → Type 0) → ((seen : List ℕ) → P seen [])
      → ((seen : List ℕ) (i : ℕ) (l : List ℕ) → i < n → occ i seen ≡ 0 → P (i ∷ seen) l → P seen (i ∷ l))
      → (seen : List ℕ) (w : ℕ) → P seen (chain_after f records base n seen w).met
  met_by_lem P none one =
      chain_by (λ seen w c. P seen c.met)
      (record {
        ends = λ seen w z. none seen;
        breaks = λ seen w z e. none seen;
        repeats = λ seen w i z e m. none seen;
        goes_on = λ seen w i c z e m. one seen i c.met (within w i e) m;
      })

  -- the chain from a word, with those records met already, is that of the rule
  pub chain_rule : ChainRule (next_word f records) (place_of base (record_size f.profile) n) (chain_after f records base n)
  chain_rule = record {
    ends = λ seen. chain_end seen 0 refl;
    breaks = chain_broken;
    comes_back = chain_again;
    goes_on = chain-meets;
  }

  -- a list of records, none of them twice and none met already, that are linked from the word w down to 0
  linked_after : base ≢ 0 → (l seen : List ℕ) (w : ℕ) → Linked (next_word f records) base (record_size f.profile) n w l → ((i : ℕ) → occ i seen + occ i l ≤ 1)
      → chain_after f records base n seen w ≡ record { met = l; ending = End }
  unfolding Linked
  linked_after b [] seen w r d = chain_end seen w r
  linked_after b (i ∷ l) seen w r d =
      let z : w ≢ 0 = (λ z. b (let e = r.1.0 in omega arith)) in
      let o = d i in
      chain-meets seen w i z
      (place_at base (record_size f.profile) n w i (omega (arith, record_least f.profile)) r.0 r.1.0)
      (omega (arith, occ_here i l))
      ∙ ap (meets i) (linked_after b l (i ∷ seen) (next_word f records i) r.1.1 (λ j. let o = d j in omega (arith, occ_cons j i seen, occ_cons j i l)))

-- ---- the chain of a sheet's records

pub chain-whole : (g : Sheet) (records : List ℕ) → chain_in g records ≡ chain_after g.format records g.record_base g.count [] g.head
unfolding chain_in
chain-whole g records = refl

module _ (g : Sheet) (records : List ℕ) where
  -- every record met is one of the n
  pub chain_below : (j : ℕ) → occ j (chain_in g records).met ≢ 0 → j < g.count
  chain_below = rw (chain-whole g records)
      (met_by_lem g.format records g.record_base g.count (λ seen l. (j : ℕ) → occ j l ≢ 0 → j < g.count)
      (λ seen j h. absurd (h (occ-none j)))
      (λ seen i l b m r j h. below_more g.count i l b r j h (ℕ_discrete j i))
      [] g.head)

  -- and is met once
  pub chain_once : (j : ℕ) → occ j (chain_in g records).met ≤ 1
  chain_once j = rw (chain-whole g records)
      (let h = met_by_lem g.format records g.record_base g.count (λ seen l. (j : ℕ) → to_one (occ j seen) + occ j l ≤ 1)
      (λ seen j. omega (arith, occ-none j, one_most (occ j seen)))
      (λ seen i l b m r j. once_more seen i l m j (r j) (ℕ_discrete j i))
      [] g.head j in omega arith)

  -- so no more are met than there are
  pub chain_short : length (chain_in g records).met ≤ g.count
  chain_short = rw (chain-whole g records)
      (let h = met_by_lem g.format records g.record_base g.count (λ seen l. length l ≤ left g.count seen)
      (λ seen. omega arith)
      (λ seen i l b m r. omega (arith, left_fewer g.count i seen b m))
      [] g.head in omega (arith, left-most g.count []))

  -- the record that a chain comes to again is one that it met
  pub chain_met_again : (i : ℕ) → (chain_in g records).ending ≡ Again i → occ i (chain_in g records).met ≡ 1
  chain_met_again i e = let h = met_again i e in omega (arith, chain_once i)
    where
      met_again : (i : ℕ) → (chain_in g records).ending ≡ Again i → occ i (chain_in g records).met ≢ 0
      met_again = rw (chain-whole g records)
          (λ i e h. chain_by g.format records g.record_base g.count (λ seen w c. (i : ℕ) → c.ending ≡ Again i → occ i seen + occ i c.met ≢ 0)
          (record {
            ends = λ seen w z i e. absurd (let z : ◌≡◌ {A = ℕ} 0 1 = cc in omega arith);
            breaks = λ seen w z e i q. absurd (let z : ◌≡◌ {A = ℕ} 0 1 = cc in omega arith);
            repeats = λ seen w i z e m j q h. let s : i ≡ j = cc in m (ap (λ (k : ℕ). occ k seen) s ∙ omega arith);
            goes_on = λ seen w i c z e m r j q h. r j q (omega (arith, occ_cons j i seen, occ_cons j i c.met));
          }) [] g.head i e (omega (arith, occ-none i)))

  pub chain_again_below : (i : ℕ) → (chain_in g records).ending ≡ Again i → i < g.count
  chain_again_below i e = chain_below i (let h = chain_met_again i e in omega arith)

  -- so the value of an ending is below the count
  pub ending_below : SizesOf g → ending_value (chain_in g records).ending < g.count
  ending_below s = go (chain_in g records).ending refl
    where
      go : (e : Ending) → (chain_in g records).ending ≡ e → ending_value e < g.count
      go End q = omega (arith, s.some)
      go Broken q = omega (arith, s.some)
      go (Again i) q = chain_again_below i q

  -- a list of records, none of them twice, that are linked from the head down to 0 is the chain
  pub linked_chain : g.record_base ≢ 0 → (l : List ℕ)
      → Linked (next_word g.format records) g.record_base (record_size g.format.profile) g.count g.head l
      → ((i : ℕ) → occ i l ≤ 1) → chain_in g records ≡ record { met = l; ending = End }
  linked_chain b l r d =
      chain-whole g records
      ∙ linked_after g.format records g.record_base g.count b l [] g.head r (λ i. let o = d i in omega (arith, occ-none i))

-- the links of a list are the same where the next words of its records are
pub linked_same : (f g : ℕ → ℕ) (base size n w : ℕ) (l : List ℕ) → ((j : ℕ) → occ j l ≢ 0 → f j ≡ g j) → Linked f base size n w l
    → Linked g base size n w l
unfolding Linked
linked_same f g base size n w [] h r = r
linked_same f g base size n w (i ∷ l) h r = (
  r.0,
  (
    r.1.0,
    linked_same f g base size n (g i) l (λ j m. h j (λ z. m (omega (arith, occ_cons j i l))))
        (rw (h i (λ z. omega (arith, occ_here i l))) at r.1.1),
  ),
)
