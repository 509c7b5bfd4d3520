-- `be16_at` meets its contract. Assumes nothing.
use native.Mathlib.Omega.{arith}
use Rattle.model.specs.Bytes.{be16}
use Rattle.model.proofs.numbers.be16_at.Goals as goal

pub returns : goal.returns
unfolding be16
returns c = omega (arith, c.from_be_bytes.ensures)
