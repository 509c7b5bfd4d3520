-- The free blocks from a block on. e b is the entry of block b, n is N.
use Rattle.std.specs.Prelude.{ℕ, ◌+◌, ◌-◌, ◌≤◌, ◌≡◌, List, eqb}
use Rattle.model.specs.Lists.{keep, from}

-- those from b on, lowest first
abbrev pub free_from : (ℕ → ℕ) → ℕ → ℕ → List ℕ
free_from e n b = keep (λ x. eqb (e x) 0) (from (n + 2 - b) b)

-- r is the first of them
pub record IsFree (e : ℕ → ℕ) (n b r : ℕ) : Type 0 where
  pub low : b ≤ r
  pub high : r ≤ n + 1
  pub free : e r ≡ 0
  pub first : free_from e n b ≡ free_from e n r
