-- `block_at` meets its contract. The invariant: b is the block at the place that the counter says. Assumes nothing.
use mathlib.Core.Path.{◌≡◌, sym, ap, subst, ◌∙◌}
use native.Mathlib.Omega.{arith}
use Rattle.model.specs.Map.{map_entry}
use Rattle.blockmap.specs.Places.{IsPlace}
use Rattle.blockmap.proofs.Chains.{at, at_first, at_next, at_inside, is_place}
use Rattle.blockmap.proofs.chain.block_at.Goals as goal

pub loop-init : goal.loop-init
loop-init c = at_first (map_entry c.args.image.now) c.args.s.0

pub load-requires : goal.load-requires
load-requires c =
    let a = c.args in
    let h = at_inside (map_entry a.image.now) a.s.0 a.place c.loop.counter c.requires.0 c.loop.auto.counter-end in
    omega arith

pub loop-preserved : goal.loop-preserved
loop-preserved c =
    let a = c.args in
    let e = map_entry a.image.now in
    c.load.ensures.0 ∙ ap e c.loop.invariant ∙ at_next e a.s.0 c.loop.counter

pub returns : goal.returns
returns c =
    let a = c.args in
    let l = c.loop in
    let e = map_entry a.image.now in
    let end : l.counter ≡ a.place = omega arith in
    let here : at e a.s.0 a.place ≡ l.b.0 = sym (l.invariant ∙ ap (at e a.s.0) end) in
    subst (IsPlace e a.s.0 a.place) here (is_place e a.s.0 a.place c.requires.0)
