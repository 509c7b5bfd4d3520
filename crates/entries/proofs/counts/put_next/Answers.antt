-- `put_next` meets its contract. Assumes nothing.
use Rattle.model.specs.Calls.{with_next}
use Rattle.entries.proofs.counts.put_next.Goals as goal

pub returns : goal.returns
unfolding with_next
returns c = c.put32_at.ensures
