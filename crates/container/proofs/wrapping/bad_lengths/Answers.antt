-- `bad_lengths` meets its contract. Assumes nothing.
use Rattle.std.proofs.Common.{arith}
use Rattle.std.proofs.lemmas.Bool.Decides.{nat_tests}
use Rattle.model.specs.Container.{bad_lengths}
use Rattle.container.proofs.wrapping.bad_lengths.Goals as goal

pub returns-then-buffer-ne-UNTAGGED_SIZE : goal.returns-then-buffer-ne-UNTAGGED_SIZE
unfolding bad_lengths
returns-then-buffer-ne-UNTAGGED_SIZE c = grind (arith, nat_tests)

pub returns-else-buffer-ne-UNTAGGED_SIZE : goal.returns-else-buffer-ne-UNTAGGED_SIZE
unfolding bad_lengths
returns-else-buffer-ne-UNTAGGED_SIZE c = grind (arith, nat_tests)
