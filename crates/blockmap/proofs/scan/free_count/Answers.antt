-- `free_count` meets its contract. The invariant: so many of the entries passed are 0. Assumes nothing.
use Prim.Native.Nat.{ℕ}
use mathlib.Core.Path.{sym, ap, ◌∙◌}
use native.Mathlib.Omega.{arith}
use lib.Dec.{eqb}
use Rattle.std.specs.List.{count_by}
use Rattle.model.specs.Map.{blocks_free}
use Rattle.blockmap.specs.Decoded.{decoded_entry}
use Rattle.blockmap.proofs.Ranges.{part_all, count_part}
use Rattle.blockmap.proofs.scan.free_count.Goals as goal

pub returns : goal.returns
unfolding blocks_free decoded_entry
returns c =
    let a = c.args in
    let l = c.loop-value in
    let p = λ (v : ℕ). eqb v 0 in
    l.invariant ∙ ap (count_by p) (part_all a.entries.now a.n l.value-index c.loop-value-test.false) ∙ sym (count_part p a.entries.now a.n 2 (omega arith))
