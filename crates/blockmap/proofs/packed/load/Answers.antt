-- `load` meets its contract: the entry is the first of its three bytes, or the second, by the parity of its block. Assumes nothing.
use native.Mathlib.Omega.{arith}
use mathlib.Core.Path.{◌≡◌, ◌∙◌, sym, ap}
use Rattle.model.specs.Map.{pair_byte, three_bytes, entries_in}
use Rattle.model.proofs.Threes.{first_entry, second_entry}
use Rattle.blockmap.proofs.packed.load.Goals as goal

pub returns-in-0 : goal.returns-in-0
returns-in-0 c =
    let pair : c.split-pair.result ≡ entries_in (three_bytes c.args.image.now (pair_byte c.args.b.0)) = c.split-pair.ensures.0
    ∙ ap entries_in (c.three_bytes-bytes.ensures ∙ ap (three_bytes c.args.image.now) c.pair_byte.ensures) in
    let a = c.args in
    let e = first_entry a.image.now a.b.0 (omega arith) (omega arith) in
    (ap (λ p. p.first) pair ∙ sym e, c.split-pair.ensures.1.0)

pub returns-in_default : goal.returns-in_default
returns-in_default c =
    let pair : c.split-pair.result ≡ entries_in (three_bytes c.args.image.now (pair_byte c.args.b.0)) = c.split-pair.ensures.0
    ∙ ap entries_in (c.three_bytes-bytes.ensures ∙ ap (three_bytes c.args.image.now) c.pair_byte.ensures) in
    let a = c.args in
    let e = second_entry a.image.now a.b.0 (omega arith) (omega arith) in
    (ap (λ p. p.second) pair ∙ sym e, c.split-pair.ensures.1.1)
