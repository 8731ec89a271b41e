-- Four words and a fill in a row, of either length. Assumes nothing.
use Rattle.area.specs.Record.{record_size}
use Rattle.area.proofs.Records.{record_run}
use Rattle.area.proofs.record.write_whole.Goals as goal

pub returns-in-Kernel : goal.returns-in-Kernel
unfolding record_size
returns-in-Kernel c =
    record_run c.args.f _ _ _ _ _ _ 80 c.args.next c.args.buffer c.args.cache c.requires
    c.write_u32.ensures c.write_u32-2.ensures c.write_u32-3.ensures c.write_u32-4.ensures
    (rw c.in-Kernel.is) (c.fill.ensures.after (λ y e. e))

pub returns-in-Userland : goal.returns-in-Userland
unfolding record_size
returns-in-Userland c =
    record_run c.args.f _ _ _ _ _ _ 84 c.args.next c.args.buffer c.args.cache c.requires
    c.write_u32.ensures c.write_u32-2.ensures c.write_u32-3.ensures c.write_u32-4.ensures
    (rw c.in-Userland.is) (c.fill-in-Userland.ensures.after (λ y e. e))
