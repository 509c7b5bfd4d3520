-- Names folded: each byte as the upper one of its pair, or as itself. The table of folds, and what it means.
use Rattle.std.specs.Prelude.{ℕ, ◌<◌, ◌≡◌, ◌↔◌, true, List, map, get_or, eqb}
use Rattle.model.specs.Lists.{first}
use Rattle.model.specs.Bytes.{Bytes}
use Rattle.model.specs.Directory.{pairs, same_name}

unfoldable pub fold : ℕ → ℕ
fold b = (first (λ p. eqb b p.0) (b, b) pairs).1

unfoldable pub folded : List ℕ → List ℕ
folded name = map fold name

-- each byte's entry is its fold
abbrev pub Folds : List ℕ → Type 0
Folds table = (b : ℕ) → b < 256 → get_or table b 0 ≡ fold b

-- a name folded by the table
unfoldable pub folded_by : List ℕ → List ℕ → List ℕ
folded_by table name = map (λ b. get_or table b 0) name

-- Folding twice changes nothing.
abbrev pub FoldsTwice : List ℕ → Type 0
FoldsTwice table = (name : List ℕ) → Bytes name → folded_by table (folded_by table name) ≡ folded_by table name

-- Equal folds are exactly equal names.
abbrev pub FoldsEqual : List ℕ → Type 0
FoldsEqual table = (m n : List ℕ) → Bytes m → Bytes n → (folded_by table m ≡ folded_by table n) ↔ (same_name m n ≡ true)
