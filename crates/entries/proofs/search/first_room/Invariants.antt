-- `first_room` meets its contract. The loop's invariant: the first i blocks have no room. Assumes nothing.
use Rattle.entries.specs.Rooms.{Full}
use Rattle.entries.proofs.search.first_room.Given as goal

abbrev pub invariant-loop-i : goal.invariant-loop-i
invariant-loop-i g l = Full (goal.F-post g l.end_of) l.from.base l.size l.i
