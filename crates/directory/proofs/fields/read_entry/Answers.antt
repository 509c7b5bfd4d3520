-- `read_entry` meets its contract: each field is what its reader gives. Assumes nothing.
use mathlib.Core.Path.{refl}
use Rattle.directory.proofs.Parts.{entry_are}
use Rattle.directory.proofs.fields.read_entry.Goals as goal

pub returns : goal.returns
returns c =
    entry_are c.args.image.now c.args.e c.requires _ refl refl
    c.array_at.ensures
    c.number_of.ensures
    c.read_fork.ensures
    c.read_fork-2.ensures
    c.be32_at.ensures
    c.be32_at-2.ensures
    refl
    c.name_at-name.ensures
