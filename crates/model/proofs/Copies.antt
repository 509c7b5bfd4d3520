-- A law of copied bytes: from a list's start on.
use Prim.Native.Nat.{ℕ, ◌+◌}
use mathlib.Core.Path.{◌≡◌, ap}
use mathlib.Core.List.{List, ◌++◌}
use native.Mathlib.Omega.{arith}
use lib.ListN.{take, drop}
use lib.Seq.{paste}

-- from a list's start on
pub paste_start : (l s : List ℕ) (n : ℕ) → paste l 0 s n ≡ take n s ++ drop n l
paste_start l s n = let same : 0 + n ≡ n = omega arith in ap (λ (k : ℕ). take n s ++ drop k l) same
