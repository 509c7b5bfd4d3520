-- The answers for the cycle of calls {walk}. Assumes nothing.
use Prim.Native.Nat.{suc, ◌-◌}
use mathlib.Core.Path.{◌≡◌, ◌∙◌}
use native.Mathlib.Omega.{arith}
use Rattle.model.proofs.Map.{is_block_lem}
use Rattle.blockmap.specs.Decoded.{decoded_entry}
use Rattle.blockmap.proofs.Walks.{walk_ends, walk_none, walk_met, walk_on, ends_marked, on_marked, too_low, too_high}
use Rattle.blockmap.proofs.chain.+walk.Goals as goal
use Rattle.blockmap.proofs.chain.+walk.Goals.{then-s-lt2-via-then-s-lt2, then-s-lt2-via-else-s-lt2+then-n-s, then-s-lt2-via-else-s-lt2+else-n-s+then-marks-place-ne0}

pub returns-then-k-eq0 : goal.returns-then-k-eq0
returns-then-k-eq0 t c =
    let a = c.args in
    let e = decoded_entry a.entries.now in
    record {
      answer = walk_ends e a.n a.marks.now a.k a.s c.if-k-eq0.true;
      after = λ r. ends_marked e a.marks.now a.k a.s c.if-k-eq0.true;
    }

pub returns-then-s-lt2-clause-answer : goal.returns-then-s-lt2-clause-answer
returns-then-s-lt2-clause-answer t c =
    let a = c.args in
    let e = decoded_entry a.entries.now in
    elim c.then-s-lt2.branch [
      | then-s-lt2-via-then-s-lt2 w ↦ walk_none e a.n a.marks.now a.k a.s (omega arith) (too_low a.n a.s (omega arith))
      | then-s-lt2-via-else-s-lt2+then-n-s w ↦ walk_none e a.n a.marks.now a.k a.s (omega arith) (too_high a.n a.s (omega arith))
      | then-s-lt2-via-else-s-lt2+else-n-s+then-marks-place-ne0 w ↦ walk_met e a.n a.marks.now a.k a.s (omega arith) w.if-marks-place-ne0.true
    ]

pub returns : goal.returns
unfolding decoded_entry
returns t c =
    let a = c.args in
    let e = decoded_entry a.entries.now in
    let m = a.marks.now in
    let j = a.k - 1 in
    let q : a.k ≡ suc j = omega arith in
    let here = is_block_lem a.n a.s (omega arith) (omega arith) in
    record {
      answer = c.walk.ensures.answer ∙ walk_on e a.n m a.k j a.s q here c.if-marks-place-ne0.false;
      after = λ r. c.walk.ensures.after r ∙ on_marked e m a.k j a.s q;
    }
