-- `model::verdict_is_accepted` meets its contract. Assumes nothing.
use Rattle.model.proofs.Check.{verdict_is_accepted}
use Rattle.model.proofs.verdict_is_accepted.Goals as goal

pub returns : goal.returns
returns c = verdict_is_accepted
