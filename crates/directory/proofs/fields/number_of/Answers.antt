-- `number_of` meets its contract. Assumes nothing.
use mathlib.Core.Path.{sym, ◌∙◌}
use Rattle.directory.proofs.Parts.{number_at}
use Rattle.directory.proofs.fields.number_of.Goals as goal

pub returns : goal.returns
returns c = c.be32_at.ensures ∙ sym (number_at c.args.image.now c.args.e c.requires)
