-- `good_number` meets its contract. Assumes nothing.
use borrow.Author.Tests.{lt-ltb, le-ltb}
use Rattle.model.specs.Check.{good_number}
use Rattle.checks.proofs.tally.good_number.Goals as goal

pub returns-then-number-gt0 : goal.returns-then-number-gt0
unfolding good_number
returns-then-number-gt0 c = rw (← c.number_of-number.ensures, lt-ltb 0 c.number_of-number.result c.if-number-gt0.true)

pub returns-else-number-gt0 : goal.returns-else-number-gt0
unfolding good_number
returns-else-number-gt0 c = rw (← c.number_of-number.ensures, le-ltb 0 c.number_of-number.result c.if-number-gt0.false)
