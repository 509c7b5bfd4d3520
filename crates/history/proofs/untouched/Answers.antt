-- `history::untouched` meets its contract.
use Rattle.history.proofs.Corollaries.{untouched}
use Rattle.history.proofs.untouched.Goals as goal

pub returns : goal.returns
returns c = untouched
