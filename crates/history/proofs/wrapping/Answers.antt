-- `history::wrapping` meets its contract.
use Rattle.history.proofs.Wrapped.{wrapping_unwraps}
use Rattle.history.proofs.wrapping.Goals as goal

pub returns : goal.returns
returns c = wrapping_unwraps
