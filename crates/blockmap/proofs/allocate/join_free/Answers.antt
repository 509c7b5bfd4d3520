-- `join_free` meets its contract. The invariant: the last block is free, and joining those still due leaves what is promised.
-- Assumes nothing.
use Prim.Native.Nat.{◌+◌, ◌-◌}
use mathlib.Core.Path.{ap, ◌∙◌}
use native.Mathlib.Omega.{arith}
use lib.ListN.{length, take}
use Rattle.model.specs.Map.{map_entry, put_chain}
use Rattle.laws.proofs.Entries.{length_set_entry}
use Rattle.blockmap.specs.Free.{free_from}
use Rattle.blockmap.proofs.Linking.{link_more, link_next, link_last}
use Rattle.blockmap.proofs.allocate.join_free.Goals as goal

pub next_free-next-requires : goal.next_free-next-requires
next_free-next-requires c =
    let a = c.args in
    let l = c.loop in
    let f = l.invariant.1 in
    (omega arith, f.big, omega (arith, f.low), link_more a.n l.last.0 (a.need + 1 - l.counter) l.image _ f (omega arith))

pub loop-preserved : goal.loop-preserved
loop-preserved c =
    let a = c.args in
    let l = c.loop in
    let x = c.next_free-next in
    let st = c.store.ensures in
    let i = a.image.now in (
      ap length st ∙ length_set_entry l.image l.last.0 x.result.0 ∙ l.invariant.0,
      link_next a.n l.last.0 (a.need + 1 - l.counter) l.image (put_chain i (take a.need (free_from (map_entry i) a.n a.b.0)))
          l.invariant.1 x.result.0 (a.need + 1 - (l.counter + 1)) c.store.new.image st (omega arith) (omega arith) (omega arith) x.ensures,
    )

pub returns : goal.returns
returns c =
    let l = c.loop in
    c.store-2.ensures ∙ link_last _ l.last.0 (c.args.need + 1 - l.counter) l.image _ l.invariant.1 (omega (arith, l.invariant.1.some))
