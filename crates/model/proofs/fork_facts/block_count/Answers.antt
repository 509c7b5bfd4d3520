-- `block_count` meets its contract. Assumes nothing.
use mathlib.Core.Path.{refl}
use Rattle.model.specs.Directory.{block_count}
use Rattle.model.proofs.fork_facts.block_count.Goals as goal

pub returns : goal.returns
unfolding block_count
returns c = refl
