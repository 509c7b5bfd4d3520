-- `changeable_fork` meets its contract. Assumes nothing.
use Rattle.files.proofs.Refusing.{barred_16}
use Rattle.files.proofs.searching.changeable_fork.Goals as goal

pub returns-then-facts-offset : goal.returns-then-facts-offset
returns-then-facts-offset c = barred_16 c.requires c.in_ok-entry.ensures c.args.fork c.args.offset c.read_fork-facts.ensures c.if-facts-offset.true
