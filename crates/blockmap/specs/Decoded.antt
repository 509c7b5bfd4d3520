-- The map decoded: a list whose element b is the entry of block b.
use Rattle.std.specs.Prelude.{ℕ, ◌+◌, ◌≤◌, ◌≡◌, List, get_or}
use Rattle.model.specs.Map.{map_entry}

-- the entry of block b in a decoded map
unfoldable pub decoded_entry : List ℕ → ℕ → ℕ
decoded_entry xs b = get_or xs b 0

-- xs is the map of the image, whose allocation blocks are 2 to n + 1
pub record Decoded (image : List ℕ) (n : ℕ) (xs : List ℕ) : Type 0 where
  pub same : (b : ℕ) → 2 ≤ b → b ≤ n + 1 → decoded_entry xs b ≡ map_entry image b
