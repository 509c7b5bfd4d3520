-- `be32_at` meets its contract. Assumes nothing.
use Prim.Native.Nat.{◌+◌}
use mathlib.Core.Path.{◌≡◌, ap}
use native.Mathlib.Omega.{arith}
use Rattle.model.specs.Bytes.{byte, be16, be32}
use Rattle.model.proofs.numbers.be32_at.Goals as goal

pub returns : goal.returns
unfolding be16 be32
returns c =
    let at = c.args.at in
    let last : at + 2 + 1 ≡ at + 3 = omega arith in
    omega (arith, c.from_be_bytes.ensures, ap (byte c.args.s.now) last)
