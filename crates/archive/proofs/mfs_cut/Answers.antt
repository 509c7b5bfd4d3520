-- `mfs_cut` meets its contract: it is the call of `volume` on the fork of that number. Assumes nothing.
use Rattle.archive.proofs.mfs_cut.Goals as goal

pub returns : goal.returns
returns c = rw c.done_number.ensures (rw c.fork_numbered.ensures at c.cut.ensures)
