-- `model::worked_cases` meets its contract.
use Rattle.model.proofs.Cases.{cases}
use Rattle.model.proofs.worked_cases.Goals as goal

pub returns : goal.returns
returns c = cases
