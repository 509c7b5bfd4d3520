-- `shorten` meets its contract: what stands is not stored again. Assumes nothing.
use Prim.Native.Nat.{suc, ◌-◌, ◌<◌}
use mathlib.Core.Path.{◌≡◌, ap, ◌∙◌}
use native.Mathlib.Omega.{arith}
use lib.ListN.{length}
use Rattle.model.specs.Bytes.{Bytes}
use Rattle.model.specs.Map.{map_entry, chain_blocks}
use Rattle.laws.proofs.Entries.{length_set_entry}
use Rattle.blockmap.proofs.Changes.{short_none, short_all, rest_runs, short_leaves}
use Rattle.blockmap.proofs.free.shorten.Goals as goal

pub returns-then-keep-k : goal.returns-then-keep-k
unfolding Bytes
returns-then-keep-k c =
    let bytes : Bytes c.args.image.now = λ i. omega (arith, c.type_inv.image i) in
    let a = c.args in
    short_all a.n a.image.now a.k a.s.0 a.keep bytes c.requires.2 c.if-keep-k.true

pub returns-then-keep-eq0 : goal.returns-then-keep-eq0
returns-then-keep-eq0 c =
    let a = c.args in
    c.free_chain.ensures
    ∙ short_none a.image.now (chain_blocks (map_entry a.image.now) a.k a.s.0) a.keep c.if-keep-eq0.true

pub free_chain-requires-2 : goal.free_chain-requires-2
free_chain-requires-2 c =
    let a = c.args in
    let within : a.keep - 1 < a.k = omega arith in
    let chain = c.requires.2 (omega arith) in
    let stands = c.block_at-last.ensures.stands (suc (a.keep - 1)) (omega arith) in
    let count : a.keep ≡ suc (a.keep - 1) = omega arith in
    let p = c.requires in (
      omega arith,
      omega (arith, p.1, ap length c.store.ensures, length_set_entry a.image.now c.block_at-last.result.0 1),
      λ _. rest_runs a.n a.image.now a.k a.s.0 (a.keep - 1) p.0 p.1 chain within a.keep c.block_at-last.result.0
          c.store.new.image c.load-next.result count stands c.store.ensures c.load-next.ensures.0,
    )

pub returns : goal.returns
unfolding Bytes
returns c =
    let bytes : Bytes c.args.image.now = λ i. omega (arith, c.slice_known-1.given i) in
    let a = c.args in
    let within : a.keep - 1 < a.k = omega arith in
    let chain = c.requires.2 (omega arith) in
    let stands = c.block_at-last.ensures.stands (suc (a.keep - 1)) (omega arith) in
    let count : a.keep ≡ suc (a.keep - 1) = omega arith in
    c.free_chain-2.ensures
    ∙ short_leaves a.n a.image.now a.k a.s.0 (a.keep - 1) c.requires.0 c.requires.1 chain within a.keep
    c.block_at-last.result.0 c.store.new.image c.load-next.result bytes count stands c.store.ensures
    c.load-next.ensures.0
