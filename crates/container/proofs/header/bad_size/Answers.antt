-- `bad_size` meets its contract. Assumes nothing.
use Rattle.std.proofs.Common.{arith}
use Rattle.std.proofs.lemmas.Bool.Decides.{nat_tests}
use Rattle.model.specs.Container.{bad_size}
use Rattle.container.proofs.header.bad_size.Goals as goal

pub returns-then-tag-ne-TAG_SIZE : goal.returns-then-tag-ne-TAG_SIZE
unfolding bad_size
returns-then-tag-ne-TAG_SIZE c = grind (arith, nat_tests)

pub returns-else-tag-ne-TAG_SIZE : goal.returns-else-tag-ne-TAG_SIZE
unfolding bad_size
returns-else-tag-ne-TAG_SIZE c = grind (arith, nat_tests)
