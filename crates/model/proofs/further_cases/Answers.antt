-- `model::further_cases` meets its contract.
use Rattle.model.proofs.Cases.{further}
use Rattle.model.proofs.further_cases.Goals as goal

pub returns : goal.returns
returns c = further
