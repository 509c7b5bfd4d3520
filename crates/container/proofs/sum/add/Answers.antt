-- `add` meets its contract. Assumes nothing.
use Rattle.std.proofs.Common.{◌+◌, ◌%◌, ◌^◌, ap, ◌∙◌, arith}
use Rattle.model.specs.Container.{turned, added}
use Rattle.container.proofs.Summing.{turns}
use Rattle.container.proofs.sum.add.Goals as goal

pub returns : goal.returns
unfolding added
returns c = c.rotate_right.ensures ∙ turns _ (omega arith) ∙ ap (λ w. turned ((c.args.sum + w) % 2 ^ 32)) c.from.ensures
