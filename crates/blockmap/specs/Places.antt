-- The block at a place of a chain. e b is the entry of block b.
use Rattle.std.specs.Prelude.{ℕ, ◌+◌, ◌≤◌, ◌<◌, ◌≡◌, true, get_or}
use Rattle.model.specs.Map.{runs, chain_blocks}

-- from s runs a chain of more than `place` blocks
pub record HasPlace (e : ℕ → ℕ) (s place : ℕ) : Type 0 where
  pub n : ℕ
  pub k : ℕ
  pub small : n ≤ 640
  pub chain : runs e n k s ≡ true
  pub within : place < k

-- b stands at that place in each such chain, and is a block's number
pub record IsPlace (e : ℕ → ℕ) (s place b : ℕ) : Type 0 where
  pub stands : (k : ℕ) → place < k → b ≡ get_or (chain_blocks e k s) place 0
  pub low : 2 ≤ b
  pub high : (n k : ℕ) → runs e n k s ≡ true → place < k → b ≤ n + 1
