-- `file_locked` meets its contract. Assumes nothing.
use mathlib.Core.Path.{sym, ap}
use Rattle.model.specs.Directory.{flags_lock}
use Rattle.files.proofs.Locked.{flags_at}
use Rattle.files.proofs.locks.file_locked.Goals as goal

pub returns : goal.returns
unfolding flags_lock
returns c = ap flags_lock (sym (flags_at c.args.image.now c.args.e c.requires))
