-- `mfs_wrapped_create` meets its contract: it is the call of `wrapped`. Assumes nothing.
use Rattle.archive.proofs.wrapped_files.mfs_wrapped_create.Goals as goal

pub returns : goal.returns
returns c = rw c.done_number.ensures c.create.ensures
