-- The laws of an image that is laid out. Assumes nothing.
use Rattle.std.specs.Prelude.{Result, Ok, Err, IfOk}
use mathlib.Core.Path.{◌≡◌, refl}
use mathlib.Core.Bool.{Bool, true, false, cond}
use Prim.Native.Nat.{ℕ, suc, ◌≤◌, ◌<◌}
use native.Mathlib.Omega.{arith}
use borrow.Author.Tests.{eqb-true, lt-ltb, le-ltb}
use lib.Dec.{eqb}
use lib.ListN.{length}
use Rattle.chunks.proofs.Chunks.{length-free_chunk}
use Rattle.area.specs.Record.{record_size}
use Rattle.area.proofs.Records.{length-record_bytes}
use Rattle.geometry.specs.Sheet.{buffer_address, record_address}
use Rattle.sheet.specs.Fields.{sheet_length}
use Rattle.geometry.specs.Limits.{Lawful}
use Rattle.sheet.specs.Opening.{numbered}
use Rattle.geometry.specs.declared.sheet.Sheet.{Sheet}
use Rattle.sheet.proofs.Opens.{numbered_known}
use Rattle.tags.specs.declared.refusal.Refusal.{Refusal}
use Rattle.tags.specs.declared.refusal.Refusal.TheVariants.{BadSheet}
use Rattle.layout.specs.Layout.{laid_chunk, link_to, laid_record, lay_out_plan, Planned}

module _ (g : Sheet) where
  -- ---- a chunk and a record

  pub laid_chunk_long : Lawful g → (i : ℕ) → length (laid_chunk g i) ≡ g.chunk
  laid_chunk_long law i = omega (arith, length-free_chunk g.format g.size (record_address g i), law.sizes.chunks)

  pub laid_record_long : (i : ℕ) → length (laid_record g i) ≡ record_size g.format.profile
  laid_record_long i = length-record_bytes g.format (link_to g (suc i)) (buffer_address g i) g.cache

  pub link_in : (i : ℕ) → i < g.count → link_to g i ≡ record_address g i
  unfolding link_to
  link_in i h = rw (lt-ltb i g.count h)

  pub link_out : (i : ℕ) → g.count ≤ i → link_to g i ≡ 0
  unfolding link_to
  link_out i h = rw (le-ltb i g.count h)

-- ---- the plan

-- numbers that pass are those of the areas
pub planned_if : (g : Sheet) (s h r : ℕ) → s ≡ sheet_length → IfOk (numbered g h r) (Planned s h r)
planned_if g s h r long = go (numbered g h r) refl
  where
    go : (o : Result Sheet Refusal) → numbered g h r ≡ o → IfOk o (Planned s h r)
    go (Ok o) e = record { long = long; opens = (numbered_known g h r o e).1.1 }
    go (Err why) e = tt

-- and those that the plan lets pass
pub planned_known : (g : Sheet) (s h r : ℕ) (o : Sheet) → lay_out_plan g s h r ≡ Ok o → Planned s h r o
unfolding lay_out_plan
planned_known g s h r o e = go (eqb s sheet_length) refl e
  where
    go : (b : Bool) → eqb s sheet_length ≡ b → cond b (numbered g h r) (Err BadSheet) ≡ Ok o → Planned s h r o
    go true q f = record { long = eqb-true s sheet_length q; opens = (numbered_known g h r o f).1.1 }
    go false q f = absurd (let z : ◌≡◌ {A = ℕ} 0 1 = cc in omega arith)
