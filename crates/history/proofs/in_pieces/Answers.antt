-- `history::in_pieces` meets its contract.
use Rattle.history.proofs.Corollaries.{in_pieces}
use Rattle.history.proofs.in_pieces.Goals as goal

pub returns : goal.returns
returns c = in_pieces
