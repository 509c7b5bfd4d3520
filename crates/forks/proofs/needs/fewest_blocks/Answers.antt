-- `fewest_blocks` meets its contract. Assumes nothing.
use mathlib.Core.Path.{◌∙◌}
use native.Mathlib.Omega.{arith}
use Rattle.forks.proofs.Growing.{fewest_ceil}
use Rattle.forks.proofs.needs.fewest_blocks.Goals as goal

pub returns : goal.returns
returns c = c.div_ceil.ensures ∙ fewest_ceil c.args.n c.args.a (omega arith)
