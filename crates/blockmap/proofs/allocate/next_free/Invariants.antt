-- `next_free` meets its contract. The invariant: no block passed is free. Assumes nothing.
use Prim.Native.Nat.{◌+◌, ◌-◌, ◌≤◌, ◌<◌}
use mathlib.Core.Path.{◌≡◌}
use Rattle.model.specs.Map.{map_entry}
use Rattle.blockmap.specs.Free.{free_from}
use Rattle.blockmap.proofs.allocate.next_free.Given as goal

abbrev pub invariant-loop-at : goal.invariant-loop-at
invariant-loop-at l = (l.initial.at ≤ l.at) × (l.at < l.n + 2) × (free_from (map_entry l.image) l.n l.initial.at ≡ free_from (map_entry l.image) l.n l.at)

abbrev pub decreases-loop-at : goal.decreases-loop-at
decreases-loop-at l = l.n + 2 - l.at
