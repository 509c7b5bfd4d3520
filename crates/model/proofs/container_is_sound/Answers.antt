-- `model::container_is_sound` meets its contract. Assumes nothing.
use Rattle.model.proofs.Container.{container_is_sound}
use Rattle.model.proofs.container_is_sound.Goals as goal

pub returns : goal.returns
returns c = container_is_sound
