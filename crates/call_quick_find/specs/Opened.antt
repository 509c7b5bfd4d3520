-- What quick find may rely on once checks 1 to 4 have passed.
use Rattle.std.specs.Prelude.{◌≡◌, List, ℕ, length}
use Rattle.model.specs.Facts.{facts_of}
use Rattle.model.specs.Check.{SoundFacts}
use Rattle.model.specs.declared.VolumeFacts.{VolumeFacts}

-- an image that passes checks 1 to 4, and its facts
pub record Opened (f : VolumeFacts) (image : List ℕ) : Type 0 where
  pub facts : f ≡ facts_of image
  pub sound : SoundFacts f (length image)
