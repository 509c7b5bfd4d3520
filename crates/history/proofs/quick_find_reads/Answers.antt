-- `history::quick_find_reads` meets its contract.
use Rattle.history.proofs.QuickFind.{quick_reads}
use Rattle.history.proofs.quick_find_reads.Goals as goal

pub returns : goal.returns
returns c = quick_reads
