-- `history::dates` meets its contract.
use Rattle.history.proofs.Corollaries.{dates}
use Rattle.history.proofs.dates.Goals as goal

pub returns : goal.returns
returns c = dates
