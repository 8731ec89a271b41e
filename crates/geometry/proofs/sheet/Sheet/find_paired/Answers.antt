-- A buffer at that address is the one that is looked for, wherever it is looked for first. Assumes nothing.
use Rattle.std.specs.Prelude.{Some}
use mathlib.Core.Path.{◌≡◌, sym, ◌∙◌}
use Prim.Native.Nat.{ℕ, ◌-◌, ◌<◌}
use native.Mathlib.Omega.{arith}
use Rattle.area.proofs.Places.{place_at}
use Rattle.geometry.specs.Sheet.{buffer_address, buffer_of}
use Rattle.geometry.specs.Limits.{Lawful}
use Rattle.geometry.specs.declared.sheet.Sheet.{Sheet}
use Rattle.geometry.proofs.sheet.Sheet.find_paired.Goals as goal

-- buffer i, whose address the word is
found : (g : Sheet) (w i : ℕ) → Lawful g → i < g.count → w ≡ buffer_address g i → Some i ≡ buffer_of g w
found g w i law h e =
    let some : 0 < g.chunk = omega (arith, law.sizes.chunks) in
    sym (place_at g.heap_base g.chunk g.count w i some h e)

pub returns-then-buffer_address-word : goal.returns-then-buffer_address-word
returns-then-buffer_address-word c =
    found c.args.self c.args.word c.args.j c.requires.lawful c.requires.j_lt_count (sym c.if-buffer_address-word.true ∙ c.buffer_address.ensures)

pub returns-then-buffer_address-word-2 : goal.returns-then-buffer_address-word-2
returns-then-buffer_address-word-2 c =
    found c.args.self c.args.word (c.args.self.count - 1 - c.args.j) c.requires.lawful (omega (arith, c.requires.j_lt_count))
    (sym c.if-buffer_address-word-2.true ∙ c.buffer_address-2.ensures)
