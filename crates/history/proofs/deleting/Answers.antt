-- `history::deleting` meets its contract.
use Rattle.history.proofs.Corollaries.{deleting}
use Rattle.history.proofs.deleting.Goals as goal

pub returns : goal.returns
returns c = deleting
