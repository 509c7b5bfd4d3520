-- `decode` meets its contract. The invariant: the blocks of the pairs passed are decoded. Assumes nothing.
use Prim.Native.Nat.{◌+◌, ◌*◌}
use mathlib.Core.Path.{◌≡◌, ◌∙◌, sym, ap, subst}
use native.Mathlib.Omega.{arith}
use lib.ListN.{length-set, set}
use Rattle.model.specs.Map.{pair_byte, three_bytes, entries_in}
use Rattle.model.proofs.Threes.{first_entry, entry_behind}
use Rattle.blockmap.proofs.Pairs.{Below, below_more}
use Rattle.blockmap.proofs.packed.decode.Goals as goal

pub loop-i-preserved : goal.loop-i-preserved
loop-i-preserved c =
    let l = c.loop-i in
    let image = c.args.image.now in
    let b = 2 * l.i + 2 in
    let at : 1088 + 3 * l.i ≡ pair_byte b = omega arith in
    let pair : c.split-pair.result ≡ entries_in (three_bytes image (pair_byte b)) =
    c.split-pair.ensures.0 ∙ ap entries_in (c.three_bytes.ensures ∙ ap (three_bytes image) at) in
    let v = ap (λ p. p.first) pair ∙ sym (first_entry image b (omega arith) (omega arith)) in
    let w = ap (λ p. p.second) pair ∙ sym (entry_behind image b (omega arith) (omega arith)) in
    let next : b + 2 ≡ 2 * (l.i + 1) + 2 = omega arith in (
      simp length-set l.invariant.0,
      subst (λ k. Below image k (set (set l.entries b c.split-pair.result.first) (b + 1) c.split-pair.result.second)) next
          (below_more image b l.entries _ _ (omega arith) v w l.invariant.1),
    )
