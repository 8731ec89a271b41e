-- The kernel's profile has no bytes to write; in userland there are two words in a row. Assumes nothing.
use Rattle.chunks.specs.Header.{header_bytes}
use Rattle.chunks.proofs.Headers.{header_run}
use Rattle.chunks.proofs.header.write.Goals as goal

pub returns-in-Userland : goal.returns-in-Userland
returns-in-Userland c =
    header_run c.args.f c.args.buffer.now _ _ c.args.c c.in-Userland.is c.write_u32.ensures c.write_u32-in-Userland.ensures

pub returns-in-Kernel : goal.returns-in-Kernel
unfolding header_bytes
returns-in-Kernel c = rw c.in-Kernel.is
