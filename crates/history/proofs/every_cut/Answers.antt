-- `history::every_cut` meets its contract.
use Rattle.history.proofs.Parts.{every_cut}
use Rattle.history.proofs.every_cut.Goals as goal

pub returns : goal.returns
returns c = every_cut
