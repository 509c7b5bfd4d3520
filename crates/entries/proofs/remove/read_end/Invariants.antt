-- `read_end` meets its contract. The loop's invariant: the block's reading comes to c. Assumes nothing.
use Rattle.directory.specs.Cursor.{Passes, ahead, Comes}
use Rattle.entries.proofs.remove.read_end.Given as goal

abbrev pub invariant-loop-behind : goal.invariant-loop-behind
invariant-loop-behind l = Passes l.image l.c × Comes l.image l.base 1 l.c

abbrev pub decreases-loop-behind : goal.decreases-loop-behind
decreases-loop-behind l = ahead l.c
