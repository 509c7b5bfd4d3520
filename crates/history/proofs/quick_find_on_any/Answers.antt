-- `history::quick_find_on_any` meets its contract.
use Rattle.history.proofs.QuickFind.{quick_any}
use Rattle.history.proofs.quick_find_on_any.Goals as goal

pub returns : goal.returns
returns c = quick_any
