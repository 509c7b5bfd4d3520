-- `join` meets its contract: the masks are remainders, and C and D have no digit in common. Assumes nothing.
use Prim.Native.Nat.{◌/◌}
use native.Mathlib.Omega.{arith}
use lib.Bits.{and_mask}
use Rattle.model.specs.Map.{bytes_for}
use Rattle.blockmap.proofs.Bits.{cd}
use Rattle.blockmap.proofs.packed.join.Goals as goal

pub returns : goal.returns
unfolding bytes_for
returns c =
    let e = c.args.entries in
    let x = cd e.first e.second (omega arith) in
    let y = and_mask e.second 8 in
    λ i. record { ab = e.first / 16; cd = x i; ef = y i }
