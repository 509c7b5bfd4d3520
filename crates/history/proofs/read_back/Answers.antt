-- `history::read_back` meets its contract.
use Rattle.history.proofs.Corollaries.{read_back}
use Rattle.history.proofs.read_back.Goals as goal

pub returns : goal.returns
returns c = read_back
