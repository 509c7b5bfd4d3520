-- `too_long_lem` meets its contract. Assumes nothing.
use mathlib.Core.Path.{refl}
use Rattle.model.specs.Calls.{too_long}
use Rattle.files.proofs.names.too_long.Goals as goal

pub returns : goal.returns
unfolding too_long
returns c = refl
