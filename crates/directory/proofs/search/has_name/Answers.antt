-- `has_name` meets its contract. Assumes nothing.
use mathlib.Core.Path.{ap, ◌∙◌}
use Rattle.model.specs.Directory.{same_name, named}
use Rattle.directory.proofs.Parts.{name_part}
use Rattle.directory.proofs.search.has_name.Goals as goal

pub returns : goal.returns
unfolding named
returns c = c.same_name.ensures ∙ ap (same_name c.args.name.now) (name_part c.args.image.now c.args.e c.requires.stands)
