-- What the copying of a fork's bytes may rely on.
use Rattle.std.specs.Prelude.{ℕ, ◌+◌, ◌*◌, ◌/◌, ◌≤◌, ◌<◌, ◌≡◌, true, List, length}
use Rattle.model.specs.Map.{map_entry, runs}
use Rattle.model.specs.Check.{good_fork}
use Rattle.model.specs.declared.ForkFacts.{ForkFacts}
use Rattle.model.specs.declared.LogicalBlock.{LogicalBlock}

-- n blocks of a bytes from logical block s on, behind the map and within the image
pub record Blocks (image : List ℕ) (s : LogicalBlock) (a n : ℕ) : Type 0 where
  pub small : n ≤ 640
  pub block : 512 ≤ a
  pub most : a ≤ 32768
  pub whole : a / 512 * 512 ≡ a
  pub start : s.0 < 65536
  pub low : 2048 ≤ 512 * s.0
  pub room : 512 * s.0 + n * a ≤ length image

-- a good fork in such blocks
pub record Copyable (image : List ℕ) (s : LogicalBlock) (a : ℕ) (g : ForkFacts) : Type 0 where
  pub n : ℕ
  pub area : Blocks image s a n
  pub good : good_fork (map_entry image) n a g ≡ true

-- a chain of k such blocks runs from t, or with k = 0 none has to
pub record Fillable (image : List ℕ) (s : LogicalBlock) (a t k : ℕ) : Type 0 where
  pub n : ℕ
  pub area : Blocks image s a n
  pub chain : 1 ≤ k → runs (map_entry image) n k t ≡ true
