-- `history::every_run` meets its contract.
use Rattle.history.proofs.Run.{every_run}
use Rattle.history.proofs.every_run.Goals as goal

pub returns : goal.returns
returns c = every_run
