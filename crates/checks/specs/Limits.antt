-- What checks 2 to 4 may rely on.
use Rattle.std.specs.Prelude.{ℕ, ◌≤◌, ◌<◌}
use Rattle.model.specs.Facts.{dir_start, S}
use Rattle.model.specs.declared.VolumeFacts.{VolumeFacts}

-- the facts of an image of 8 blocks or more, their block numbers as stored
pub record Sized (f : VolumeFacts) (blocks : ℕ) : Type 0 where
  pub many : 8 ≤ blocks
  pub directory : (dir_start f).0 < 65536
  pub allocation : (S f).0 < 65536
