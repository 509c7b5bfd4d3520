-- `copy_blocks` meets its contract. The invariant: the first `done` bytes are copied, and those that are left stand behind block b.
-- Assumes nothing.
use Prim.Native.Nat.{◌-◌, ◌≤◌, ◌<◌}
use mathlib.Core.Path.{◌≡◌}
use mathlib.Core.List.{◌++◌}
use lib.ListN.{length, take, drop}
use Rattle.forks.proofs.Copying.{Farther, bytes_from}
use Rattle.forks.proofs.content.copy_blocks.Given as goal

abbrev pub invariant-loop-done : goal.invariant-loop-done
invariant-loop-done l =
    let xs = bytes_from l.image l.start l.size l.fn.g l.offset in
    (l.done ≤ l.count) × (length l.buffer ≡ length l.fn.buffer) × (l.buffer ≡ take l.done xs ++ drop l.done l.fn.buffer)
    × (l.done < l.count → Farther l.image l.start l.size (drop l.done xs) l.b.0)

abbrev pub decreases-loop-done : goal.decreases-loop-done
decreases-loop-done l = l.count - l.done
