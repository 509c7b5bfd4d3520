-- `tags` meets its contract. Assumes nothing.
use Rattle.std.proofs.Common.{refl}
use Rattle.laws.proofs.Containers.{tags_is}
use Rattle.container.proofs.parts.tags.Goals as goal

pub returns : goal.returns
returns c = tags_is c.args.file.now 409684 refl
