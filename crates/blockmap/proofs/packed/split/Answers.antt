-- `split` meets its contract: the mask is a remainder, and the parts of each entry have no digit in common. Assumes nothing.
use native.Mathlib.Omega.{arith}
use Rattle.model.specs.Map.{entries_in}
use Rattle.blockmap.proofs.Bits.{abc, def}
use Rattle.blockmap.proofs.packed.split.Goals as goal

pub returns : goal.returns
unfolding entries_in
returns c =
    let t = c.args.bytes in
    let x = abc t.ab t.cd (omega arith) (omega arith) in
    let y = def t.cd t.ef (omega arith) in
    (λ i. record { first = x i; second = y i }, (omega arith, omega arith))
