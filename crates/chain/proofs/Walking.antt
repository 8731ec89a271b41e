-- What a walk gives at a word: where it stops, and where it meets a record and goes on. Assumes nothing.
use Rattle.std.proofs.Common.{◌≡◌, ◌≢◌, ℕ, ◌+◌, ◌-◌, ◌%◌, ◌≤◌, ◌<◌, List, ◌∷◌, get_or, set, Some, None, ◌∙◌, arith}
use Rattle.std.proofs.lemmas.Bool.{eq-eqb, ne_eqb}
use Rattle.words.specs.Word.{number_at}
use Rattle.words.proofs.Parts.{below}
use Rattle.area.proofs.Places.{place_found}
use Rattle.area.proofs.Records.{record_least, record_at_offset}
use Rattle.area.specs.Record.{record_size, next_at}
use Rattle.geometry.specs.Sheet.{records_length, record_of}
use Rattle.geometry.specs.declared.sheet.Sheet.{Sheet}
use Rattle.chain.specs.Walk.{ending_at, WalkOf}
use Rattle.chain.specs.declared.walk.Stop.{Stop}
use Rattle.chain.proofs.MetRecords.{is-met, not-met, area-meets, area_mid}
use Rattle.chain.proofs.Chains.{chain_end, chain_broken, chain_again, chain-meets}

-- a record that is found is one of the n, and lies in the record area
pub record RecordFound (g : Sheet) (w i : ℕ) : Type 0 where
  pub within : i < g.count
  pub base_le : g.record_base ≤ w
  pub inside : w + 4 ≤ g.record_base + records_length g

pub record_found : (g : Sheet) (w i : ℕ) → record_of g w ≡ Some i → RecordFound g w i
record_found g w i e =
    let f = place_found g.record_base (record_size g.format.profile) g.count w i e in
    let b = below (record_size g.format.profile) f.0 in
    let l = record_least g.format.profile in
    record { within = f.0; base_le = omega (arith, f.1); inside = omega (arith, f.1) }

module _ (g : Sheet) (records marks : List ℕ) (met w : ℕ) where
  abbrev stopped : Stop
  stopped = record { met = met; word = w }

  pub stops_end : w ≡ 0 → WalkOf g records w marks met stopped marks
  unfolding ending_at
  stops_end z rest seen h =
      rw (chain_end g.format records g.record_base g.count seen w z) (record { met = omega arith; ending = simp (eq-eqb w 0 z); marked = h })

  pub stops_broken : w ≢ 0 → record_of g w ≡ None → WalkOf g records w marks met stopped marks
  unfolding ending_at
  stops_broken z e rest seen h =
      rw (chain_broken g.format records g.record_base g.count seen w z e)
      (record { met = omega arith; ending = simp (ne_eqb w 0 z, e); marked = h })

  module _ (i : ℕ) (z : w ≢ 0) (e : record_of g w ≡ Some i) where
    pub stops_again : get_or marks i 0 % 2 ≢ 0 → WalkOf g records w marks met stopped marks
    unfolding ending_at
    stops_again odd rest seen h =
        rw (chain_again g.format records g.record_base g.count seen w i z e (is-met g.count rest seen marks i h (record_found g w i e).within odd))
        (record { met = omega arith; ending = simp (ne_eqb w 0 z, e); marked = h })

    pub goes_on : (next : ℕ) (r : Stop) (exit : List ℕ) → get_or marks i 0 % 2 ≡ 0 → next ≡ number_at g.format.order 4 records (w + next_at - g.record_base)
        → WalkOf g records next (set marks i (get_or marks i 0 + 1)) (met + 1) r exit → WalkOf g records w marks met r exit
    goes_on next r exit even n walked rest seen h =
        let f = place_found g.record_base (record_size g.format.profile) g.count w i e in
        let read = n ∙ record_at_offset g.format records g.record_base (w + next_at) i next_at (omega (arith, f.1)) in
        let d = rw read at (walked rest (i ∷ seen) (area-meets g.count rest seen marks i h f.0 even)) in
        rw (chain-meets g.format records g.record_base g.count seen w i z e (not-met g.count rest seen marks i h f.0 even))
        (record { met = d.met ∙ omega arith; ending = d.ending; marked = d.marked ∙ area_mid g.count rest i _ seen })
