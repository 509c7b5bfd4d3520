-- `next_free` meets its contract. The invariant: no block passed is free. Assumes nothing.
use Prim.Native.Nat.{◌+◌, ◌≤◌}
use mathlib.Core.Path.{refl, sym, ap, ◌∙◌}
use native.Mathlib.Omega.{arith}
use lib.ListN.{length}
use Rattle.model.specs.Map.{map_entry}
use Rattle.blockmap.specs.Free.{free_from}
use Rattle.blockmap.proofs.Linking.{free_miss, free_below}
use Rattle.blockmap.proofs.allocate.next_free.Goals as goal

pub loop-at-init : goal.loop-at-init
loop-at-init c =
    let a = c.args in
    (omega arith, free_below (map_entry a.image.now) a.n a.b.0 c.requires.3, refl)

pub loop-at-preserved : goal.loop-at-preserved
loop-at-preserved c =
    let a = c.args in
    let at = c.loop-at.at in
    let e = map_entry a.image.now in
    let v = c.load.ensures.0 in
    let on = c.loop-at.invariant.2 ∙ free_miss e a.n at (omega arith) (omega (arith, c.loop-at-test.true)) in
    let some : 1 ≤ length (free_from e a.n (at + 1)) = omega (arith, ap length on, c.requires.3) in
    (omega arith, free_below e a.n (at + 1) some, on)

pub returns : goal.returns
returns c =
    let l = c.loop-at in
    record {
      low = l.invariant.0;
      high = omega arith;
      free = sym c.load.ensures.0 ∙ c.loop-at-test.false;
      first = l.invariant.2;
    }
