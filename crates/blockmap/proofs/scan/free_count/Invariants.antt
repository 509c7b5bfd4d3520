-- `free_count` meets its contract. The invariant: so many of the entries passed are 0. Assumes nothing.
use mathlib.Core.Path.{◌≡◌}
use lib.ListN.{take}
use lib.Dec.{eqb}
use Rattle.std.specs.List.{count_by}
use Rattle.blockmap.proofs.scan.free_count.Given as goal

abbrev pub invariant-loop-value : goal.invariant-loop-value
invariant-loop-value l = l.free ≡ count_by (λ v. eqb v 0) (take l.value-index l.value-items)
