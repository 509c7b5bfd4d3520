-- The new blocks that a write needs.
use Rattle.std.specs.Prelude.{ℕ, ◌≡◌, cond, ltb, Result, Ok, Err}
use Rattle.model.specs.Facts.{free_count}
use Rattle.model.specs.Calls.{needed_blocks}
use Rattle.model.specs.declared.VolumeFacts.{VolumeFacts}
use Rattle.model.specs.declared.ForkFacts.{ForkFacts}
use Rattle.model.specs.declared.refusal.Refusal.{Refusal}
use Rattle.model.specs.declared.refusal.Refusal.TheVariants.{VolumeFull}

-- r says 17 where the new blocks that a write of n bytes at o in the fork g needs exceed those free, and else how many they are
pub record Grows (f : VolumeFacts) (g : ForkFacts) (o n : ℕ) (r : Result ℕ Refusal) : Type 0 where
  pub is : r ≡ cond (ltb (free_count f) (needed_blocks f g o n)) (Err VolumeFull) (Ok (needed_blocks f g o n))
