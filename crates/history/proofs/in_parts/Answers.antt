-- `history::in_parts` meets its contract.
use Rattle.history.proofs.Parts.{in_parts}
use Rattle.history.proofs.in_parts.Goals as goal

pub returns : goal.returns
returns c = in_parts
