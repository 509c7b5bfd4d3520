-- `history::renaming` meets its contract.
use Rattle.history.proofs.Corollaries.{renaming}
use Rattle.history.proofs.renaming.Goals as goal

pub returns : goal.returns
returns c = renaming
