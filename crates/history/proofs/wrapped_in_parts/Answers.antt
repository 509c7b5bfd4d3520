-- `history::wrapped_in_parts` meets its contract.
use Rattle.history.proofs.Parts.{wrapped_in_parts}
use Rattle.history.proofs.wrapped_in_parts.Goals as goal

pub returns : goal.returns
returns c = wrapped_in_parts
