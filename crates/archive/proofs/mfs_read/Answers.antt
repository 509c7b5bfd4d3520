-- `mfs_read` meets its contract: it is the call of `volume` on the fork of that number. Assumes nothing.
use Rattle.archive.proofs.mfs_read.Goals as goal

pub returns : goal.returns
returns c = rw (c.from.ensures _) (rw c.fork_numbered.ensures at c.read.ensures)
