-- `no_fork` meets its contract: ten zero bytes read as its record. Assumes nothing.
use mathlib.Core.Path.{refl}
use Rattle.model.specs.Bytes.{be16, be32}
use Rattle.model.specs.Directory.{fork_in}
use Rattle.files.proofs.answers.no_fork.Goals as goal

pub returns : goal.returns
unfolding fork_in be32 be16
returns c = refl
