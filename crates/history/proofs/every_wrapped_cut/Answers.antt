-- `history::every_wrapped_cut` meets its contract.
use Rattle.history.proofs.Parts.{every_wrapped_cut}
use Rattle.history.proofs.every_wrapped_cut.Goals as goal

pub returns : goal.returns
returns c = every_wrapped_cut
