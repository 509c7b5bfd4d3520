-- One check and those behind it.
use Prim.Native.Nat.{ℕ}
use mathlib.Core.Path.{◌≡◌, refl}
use mathlib.Core.Bool.{Bool, true, false}
use Rattle.model.specs.Check.{or_else}
use Rattle.model.proofs.Lists.{so_not}

pub fires_here : (t : Bool) (k r : ℕ) → t ≡ true → or_else t k r ≡ k
fires_here true k r h = refl
fires_here false k r h = absurd (so_not false refl h)

pub passes_here : (t : Bool) (k r : ℕ) → t ≡ false → or_else t k r ≡ r
passes_here true k r h = absurd (so_not true h refl)
passes_here false k r h = refl
