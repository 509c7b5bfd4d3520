-- `history::room` meets its contract.
use Rattle.history.proofs.Corollaries.{room}
use Rattle.history.proofs.room.Goals as goal

pub returns : goal.returns
returns c = room
