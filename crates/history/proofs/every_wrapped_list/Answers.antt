-- `history::every_wrapped_list` meets its contract.
use Rattle.history.proofs.Wrapped.{every_wrapped_list}
use Rattle.history.proofs.every_wrapped_list.Goals as goal

pub returns : goal.returns
returns c = every_wrapped_list
