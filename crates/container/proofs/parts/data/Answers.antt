-- `data` meets its contract. Assumes nothing.
use Rattle.std.proofs.Common.{refl}
use Rattle.laws.proofs.Containers.{data_is}
use Rattle.container.proofs.parts.data.Goals as goal

pub returns : goal.returns
returns c = data_is c.args.file.now 409684 refl
