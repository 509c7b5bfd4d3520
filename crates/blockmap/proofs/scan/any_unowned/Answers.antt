-- `any_unowned` meets its contract. The invariant: the answer is what was found in the blocks passed, or that of those left.
-- Assumes nothing.
use Rattle.std.proofs.Common.{rules}
use mathlib.Core.Path.{◌≡◌, sym, ap, ◌∙◌}
use mathlib.Core.Bool.{◌||◌, or-false}
use mathlib.Core.List.{◌∷◌}
use mathlib.Core.Logic.{◌⊎◌}
use native.Mathlib.Omega.{arith}
use lib.ListN.{length, take, drop}
use Rattle.blockmap.specs.Decoded.{decoded_entry}
use Rattle.blockmap.specs.Marks.{unowned}
use Rattle.blockmap.proofs.Ranges.{any_pair_part, any_pair_next, any_pair_end}
use Rattle.blockmap.proofs.scan.any_unowned.Invariants.{lost}
use Rattle.blockmap.proofs.scan.any_unowned.Goals as goal

pub loop-value-init : goal.loop-value-init
unfolding unowned decoded_entry
loop-value-init c =
    let a = c.args in
    let it = c.into_iter-value-iterator.result in
    let xs : it.a.rest.now ≡ take a.n (drop 2 a.entries.now) = search rules in
    let ys : it.b.rest.now ≡ take a.n (drop 2 a.marks.now) = search rules in
    rw (xs, ys) (any_pair_part lost a.entries.now a.marks.now a.n 2 (omega arith) (omega arith))

pub loop-value-preserved : goal.loop-value-preserved
loop-value-preserved c =
    let l = c.loop-value in
    let it = l.value-iterator in
    let new = c.next.new.self in
    let xs : it.a.rest.now ≡ c.in-Some.value.now ∷ new.a.rest.now = search rules in
    let ys : it.b.rest.now ≡ c.in-Some.mark.now ∷ new.b.rest.now = search rules in
    l.invariant ∙ any_pair_next lost l.found it.a.rest.now it.b.rest.now c.in-Some.value.now c.in-Some.mark.now new.a.rest.now new.b.rest.now xs ys

pub returns : goal.returns
returns c =
    let l = c.loop-value in
    let it = l.value-iterator in
    let end : (length it.a.rest.now ≡ 0) ⊎ (length it.b.rest.now ≡ 0) = search rules in
    sym (l.invariant ∙ ap (λ t. l.found || t) (any_pair_end lost it.a.rest.now it.b.rest.now end) ∙ or-false l.found)
