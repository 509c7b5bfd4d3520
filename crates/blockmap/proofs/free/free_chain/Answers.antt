-- `free_chain` meets its contract. The invariant: the blocks still due are a chain's, and freeing them leaves what is promised.
-- Assumes nothing.
use Prim.Native.Nat.{◌+◌, ◌-◌}
use mathlib.Core.Path.{◌≡◌, refl, ap, ◌∙◌}
use native.Mathlib.Omega.{arith}
use lib.ListN.{length}
use Rattle.model.specs.Map.{map_entry, chain_blocks, put_free}
use Rattle.laws.proofs.Entries.{length_set_entry}
use Rattle.blockmap.proofs.Frees.{freeing, free_block, free_next, freed}
use Rattle.blockmap.proofs.free.free_chain.Goals as goal

pub loop-init : goal.loop-init
loop-init c =
    let a = c.args in
    let q : a.k - 0 ≡ a.k = omega arith in
    (refl, rw q (freeing a.n a.k a.s.0 a.image.now (omega arith) c.requires.2))

pub load-next-requires : goal.load-next-requires
load-next-requires c =
    let l = c.loop in
    let h = free_block c.args.n l.b (c.args.k - l.counter) l.image _ (omega arith) l.invariant.1 in
    let f = l.invariant.1.big in
    omega arith

pub store-requires : goal.store-requires
store-requires c =
    let l = c.loop in
    let h = free_block c.args.n l.b (c.args.k - l.counter) l.image _ (omega arith) l.invariant.1 in
    let f = l.invariant.1.big in
    omega arith

pub loop-preserved : goal.loop-preserved
loop-preserved c =
    let a = c.args in
    let l = c.loop in
    let st = c.store.ensures in (
      ap length st ∙ length_set_entry l.image l.b 0 ∙ l.invariant.0,
      free_next a.n l.b (a.k - l.counter) l.image (put_free a.image.now (chain_blocks (map_entry a.image.now) a.k a.s.0))
          c.store.new.image c.load-next.result (a.k - (l.counter + 1)) st c.load-next.ensures.0 (omega arith) (omega arith) l.invariant.1,
    )

pub returns : goal.returns
returns c =
    let l = c.loop in
    freed _ l.b (c.args.k - l.counter) l.image _ (omega arith) l.invariant.1
