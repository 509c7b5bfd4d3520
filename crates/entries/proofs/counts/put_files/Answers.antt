-- `put_files` meets its contract. Assumes nothing.
use Rattle.model.specs.Calls.{with_files}
use Rattle.entries.proofs.counts.put_files.Goals as goal

pub returns : goal.returns
unfolding with_files
returns c = c.put16_at.ensures
