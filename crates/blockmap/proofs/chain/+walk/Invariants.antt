-- The measure of the cycle of calls {walk} is k, the blocks still due.
use Rattle.blockmap.proofs.chain.+walk.Given as goal

abbrev pub decreases-walk : goal.decreases-walk
decreases-walk l = l.k
