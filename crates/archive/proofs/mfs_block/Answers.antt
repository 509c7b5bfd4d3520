-- `mfs_block` meets its contract: it is the call of `volume` on the fork of that number. Assumes nothing.
use Rattle.archive.proofs.mfs_block.Goals as goal

pub returns : goal.returns
returns c = rw c.from.ensures (rw c.fork_numbered.ensures at c.block.ensures)
