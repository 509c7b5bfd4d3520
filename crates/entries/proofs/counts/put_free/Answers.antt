-- `put_free` meets its contract. Assumes nothing.
use Rattle.model.specs.Calls.{with_free}
use Rattle.entries.proofs.counts.put_free.Goals as goal

pub returns : goal.returns
unfolding with_free
returns c = c.put16_at.ensures
