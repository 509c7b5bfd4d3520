-- `mfs_write` meets its contract: it is the call of `volume` on the fork of that number. Assumes nothing.
use Rattle.archive.proofs.mfs_write.Goals as goal

pub returns : goal.returns
returns c = rw c.done_number.ensures (rw c.fork_numbered.ensures at c.write.ensures)
