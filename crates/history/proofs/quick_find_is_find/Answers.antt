-- `history::quick_find_is_find` meets its contract.
use Rattle.history.proofs.QuickFind.{quick_find_lem}
use Rattle.history.proofs.quick_find_is_find.Goals as goal

pub returns : goal.returns
returns c = quick_find_lem
