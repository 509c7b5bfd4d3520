-- `bad_header` meets its contract. Assumes nothing.
use Rattle.std.proofs.Common.{arith}
use Rattle.std.proofs.lemmas.Bool.Decides.{nat_tests}
use Rattle.model.specs.Container.{bad_size, fires22}
use Rattle.container.proofs.header.bad_header.Goals as goal

pub returns-then-file-ne0 : goal.returns-then-file-ne0
unfolding fires22 bad_size
returns-then-file-ne0 c = grind (arith, nat_tests)

pub returns-else-file-ne0 : goal.returns-else-file-ne0
unfolding fires22 bad_size
returns-else-file-ne0 c = grind (arith, nat_tests)
