-- `hash_name` meets its contract. The loop's invariant: what is left of the name, hashed into h, is the whole name hashed. Assumes nothing.
use Prim.Native.Nat.{◌<◌}
use mathlib.Core.Path.{◌≡◌}
use lib.ListN.{drop}
use Rattle.directory.specs.Folding.{folded}
use Rattle.checks.specs.Table.{hashed}
use Rattle.checks.proofs.table.hash_name.Given as goal

abbrev pub invariant-loop-x : goal.invariant-loop-x
invariant-loop-x l = (l.h < 65536) × (hashed l.h (folded (drop l.x-index l.name)) ≡ hashed 0 (folded l.name))
