-- `quick_locate` meets its contract. The loop's invariant: the search has passed `looked` blocks with `place` entries, none of the name.
-- Assumes nothing.
use Prim.Native.Nat.{◌+◌, ◌*◌, ◌≤◌}
use lib.ListN.{drop}
use Rattle.model.specs.Directory.{cut_blocks}
use Rattle.directory.proofs.QuickSteps.{blocks_from, Past}
use Rattle.directory.proofs.quick.quick_locate.Given as goal

abbrev pub invariant-loop-looked : goal.invariant-loop-looked
invariant-loop-looked l = record {
  few : l.place ≤ 10 * l.looked;
  past : Past l.name (cut_blocks (l.from.left + 1) (drop l.from.base l.image)) (blocks_from l.image l.from.base (l.from.left + 1) l.looked) l.looked l.place;
}
