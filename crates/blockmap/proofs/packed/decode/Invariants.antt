-- `decode` meets its contract. The invariant: the blocks of the pairs passed are decoded. Assumes nothing.
use Prim.Native.Nat.{◌+◌, ◌*◌}
use mathlib.Core.Path.{◌≡◌}
use lib.ListN.{length}
use Rattle.blockmap.proofs.Pairs.{Below}
use Rattle.blockmap.proofs.packed.decode.Given as goal

abbrev pub invariant-loop-i : goal.invariant-loop-i
invariant-loop-i l = (length l.entries ≡ 642) × Below l.image (2 * l.i + 2) l.entries
