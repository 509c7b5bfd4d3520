-- `join_free` meets its contract. The invariant: the last block is free, and joining those still due leaves what is promised.
-- Assumes nothing.
use Prim.Native.Nat.{◌+◌, ◌-◌}
use mathlib.Core.Path.{◌≡◌}
use lib.ListN.{length, take}
use Rattle.model.specs.Map.{map_entry, put_chain}
use Rattle.blockmap.specs.Free.{free_from}
use Rattle.blockmap.proofs.Linking.{Linking}
use Rattle.blockmap.proofs.allocate.join_free.Given as goal

abbrev pub invariant-loop : goal.invariant-loop
invariant-loop l = (length l.image ≡ length l.initial.image) × Linking l.n l.image l.last.0 (l.need + 1 - l.counter) (put_chain l.initial.image (take l.need (free_from (map_entry l.initial.image) l.n l.initial.last.0)))
