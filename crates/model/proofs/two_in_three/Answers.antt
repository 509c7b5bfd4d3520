-- `model::two_in_three` meets its contract. Assumes nothing.
use Rattle.model.proofs.Threes.{two_in_three}
use Rattle.model.proofs.two_in_three.Goals as goal

pub returns : goal.returns
returns c = two_in_three
