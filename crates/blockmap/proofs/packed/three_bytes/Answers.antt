-- `three_bytes` meets its contract. Assumes nothing.
use mathlib.Core.Path.{refl}
use Rattle.model.specs.Map.{three_bytes}
use Rattle.blockmap.proofs.packed.three_bytes.Goals as goal

pub returns : goal.returns
unfolding three_bytes
returns c = refl
