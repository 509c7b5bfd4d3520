-- `block_at` meets its contract. The invariant: b is the block at the place that the counter says. Assumes nothing.
use mathlib.Core.Path.{◌≡◌}
use Rattle.model.specs.Map.{map_entry}
use Rattle.blockmap.proofs.Chains.{at}
use Rattle.blockmap.proofs.chain.block_at.Given as goal

abbrev pub invariant-loop : goal.invariant-loop
invariant-loop l = l.b.0 ≡ at (map_entry l.image) l.initial.b.0 l.counter
