-- `entry_at` meets its contract. Assumes nothing.
use Rattle.directory.proofs.Yielded.{given_at, given_none}
use Rattle.directory.proofs.search.entry_at.Goals as goal

pub returns : goal.returns
returns c = given_at c.entries.result c.nth.new.self c.entries.ensures.0 c.entries.ensures.1 c.in_ok-entry.ensures.ran

pub returns-in_err-entry : goal.returns-in_err-entry
returns-in_err-entry c = rw c.from_residual.ensures (given_none c.entries.result c.nth.new.self c.entries.ensures.0 c.entries.ensures.1 c.in_err-entry.ensures.ran)
