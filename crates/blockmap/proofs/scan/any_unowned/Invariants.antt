-- `any_unowned` meets its contract. The invariant: the answer is what was found in the blocks passed, or that of those left.
-- Assumes nothing.
use Prim.Native.Nat.{ℕ}
use mathlib.Core.Path.{◌≡◌}
use mathlib.Core.Bool.{Bool, ◌&&◌, ◌||◌}
use lib.Dec.{eqb, ltb}
use Rattle.blockmap.specs.Decoded.{decoded_entry}
use Rattle.blockmap.specs.Marks.{unowned}
use Rattle.blockmap.proofs.Ranges.{any_pair}
use Rattle.blockmap.proofs.scan.any_unowned.Given as goal

-- an entry above 0 and no mark
abbrev pub lost : ℕ → ℕ → Bool
lost value mark = ltb 0 value && eqb mark 0

abbrev pub invariant-loop-value : goal.invariant-loop-value
invariant-loop-value l = unowned (decoded_entry l.entries) l.n l.marks ≡ (l.found || any_pair lost l.value-iterator.a.rest.now l.value-iterator.b.rest.now)
