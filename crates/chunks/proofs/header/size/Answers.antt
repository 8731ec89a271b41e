-- The length is told by the profile. Assumes nothing.
use Rattle.chunks.specs.Header.{header_size}
use Rattle.chunks.proofs.header.size.Goals as goal

pub returns-in-Kernel : goal.returns-in-Kernel
unfolding header_size
returns-in-Kernel c = rw c.in-Kernel.is

pub returns-in-Userland : goal.returns-in-Userland
unfolding header_size
returns-in-Userland c = rw c.in-Userland.is
