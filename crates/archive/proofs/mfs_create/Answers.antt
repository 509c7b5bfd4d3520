-- `mfs_create` meets its contract: it is the call of `volume`. Assumes nothing.
use Rattle.archive.proofs.mfs_create.Goals as goal

pub returns : goal.returns
returns c = rw c.done_number.ensures c.create.ensures
