-- `spread` meets its contract. Assumes nothing.
use mathlib.Core.Path.{refl}
use Rattle.checks.specs.Table.{spread_of}
use Rattle.checks.proofs.table.spread.Goals as goal

pub returns : goal.returns
unfolding spread_of
returns c = refl
