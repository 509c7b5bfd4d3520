-- `history::wrapped_runs` meets its contract.
use Rattle.history.proofs.Wrapped.{wrapped_runs}
use Rattle.history.proofs.wrapped_runs.Goals as goal

pub returns : goal.returns
returns c = wrapped_runs
