-- `entry_size` meets its contract. Assumes nothing.
use native.Mathlib.Omega.{arith}
use Rattle.model.specs.Directory.{padded}
use Rattle.directory.proofs.places.entry_size.Goals as goal

pub returns : goal.returns
unfolding padded
returns c = omega arith
