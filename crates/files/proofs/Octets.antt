-- What is known of a slice's elements, as the definitions say it.
use Prim.Native.Nat.{ℕ}
use mathlib.Core.List.{List}
use native.Mathlib.Omega.{arith}
use lib.ListN.{get_or}
use mir.Syntax.{w8}
use mir.Val as val
use Rattle.model.specs.Bytes.{Bytes}

pub octets : (l : List ℕ) → ((i : ℕ) → val.Fits w8 (get_or l i 0)) → Bytes l
unfolding Bytes
octets l h i = omega (arith, h i)
