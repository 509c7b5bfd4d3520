-- `shorten_fork` meets its contract. Assumes nothing.
use Prim.Native.Nat.{◌/◌, ◌≤◌}
use mathlib.Core.Path.{◌≡◌}
use native.Mathlib.Omega.{arith}
use lib.ListN.{take}
use Rattle.model.specs.Lists.{first_or0}
use Rattle.model.specs.Map.{map_entry, chain_blocks}
use Rattle.model.specs.Directory.{block_count}
use Rattle.files.proofs.Forks.{long_image}
use Rattle.files.proofs.Owned.{few, fork_runs}
use Rattle.call_cut.proofs.Kept.{no_start, same_start, has_most, keeps_within, keeps_small, free_small, cut_stands, cut_leaves}
use Rattle.call_cut.proofs.shorten.shorten_fork.Goals as goal
use Rattle.call_cut.proofs.shorten.shorten_fork.Goals.{then-keep-eq0, else-keep-eq0}

pub overflow_cast-has : goal.overflow_cast-has
unfolding block_count
overflow_cast-has c =
    let has_is : c.block_count-has.result ≡ c.args.g.physical / c.args.f.block_size = c.block_count-has.ensures in
    omega (arith, has_is, has_most c.requires.fork_at)

pub overflow_cast-keep : goal.overflow_cast-keep
unfolding block_count
overflow_cast-keep c =
    let has_is : c.block_count-has.result ≡ c.args.g.physical / c.args.f.block_size = c.block_count-has.ensures in
    let within : c.fewest_blocks-keep.result ≤ c.block_count-has.result = omega (arith, has_is, c.fewest_blocks-keep.ensures, keeps_within c.requires.fork_at c.args.size c.requires.size_le_logical) in
    omega (arith, within, has_is, has_most c.requires.fork_at)

pub shorten-requires : goal.shorten-requires
unfolding block_count
shorten-requires c =
    let has_is : c.block_count-has.result ≡ c.args.g.physical / c.args.f.block_size = c.block_count-has.ensures in
    let within : c.fewest_blocks-keep.result ≤ c.block_count-has.result = omega (arith, has_is, c.fewest_blocks-keep.ensures, keeps_within c.requires.fork_at c.args.size c.requires.size_le_logical) in
    let h = c.requires.fork_at in
    (few h.held, long_image h.held.readable, rw has_is (fork_runs h.held c.args.fork c.args.g h.is), within)

pub store_fork-requires : goal.store_fork-requires
unfolding block_count
store_fork-requires c =
    let has_is : c.block_count-has.result ≡ c.args.g.physical / c.args.f.block_size = c.block_count-has.ensures in
    cut_stands c.requires.fork_at c.args.size c.requires.size_le_logical _ c.block_count-has.result c.fewest_blocks-keep.result
    has_is c.fewest_blocks-keep.ensures c.shorten.ensures

pub overflow_sub-has : goal.overflow_sub-has
unfolding block_count
overflow_sub-has c =
    let has_is : c.block_count-has.result ≡ c.args.g.physical / c.args.f.block_size = c.block_count-has.ensures in
    let within : c.fewest_blocks-keep.result ≤ c.block_count-has.result = omega (arith, has_is, c.fewest_blocks-keep.ensures, keeps_within c.requires.fork_at c.args.size c.requires.size_le_logical) in
    within

pub overflow_add-f : goal.overflow_add-f
unfolding block_count
overflow_add-f c =
    let has_is : c.block_count-has.result ≡ c.args.g.physical / c.args.f.block_size = c.block_count-has.ensures in
    omega (arith, has_is, c.fewest_blocks-keep.ensures, free_small c.requires.fork_at c.args.size c.requires.size_le_logical)

pub returns : goal.returns
unfolding block_count
returns c =
    let has_is : c.block_count-has.result ≡ c.args.g.physical / c.args.f.block_size = c.block_count-has.ensures in
    let within : c.fewest_blocks-keep.result ≤ c.block_count-has.result = omega (arith, has_is, c.fewest_blocks-keep.ensures, keeps_within c.requires.fork_at c.args.size c.requires.size_le_logical) in
    let starts : let a = c.args in
    c.if-keep-eq0.start ≡ first_or0 (take c.fewest_blocks-keep.result (chain_blocks (map_entry a.image.now) c.block_count-has.result a.g.start.0)) = let a = c.args in
    let e = map_entry a.image.now in
    let has = c.block_count-has.result in
    let keep = c.fewest_blocks-keep.result in
    elim c.if-keep-eq0.branch [
      | then-keep-eq0 w ↦ no_start (chain_blocks e has a.g.start.0) keep c.if-keep-eq0.start w.if-keep-eq0.true w.start-is
      | else-keep-eq0 w ↦ same_start e has a.g.start.0 keep c.if-keep-eq0.start within w.if-keep-eq0.false w.start-is
    ] in
    cut_leaves c.requires.fork_at c.args.size c.requires.size_le_logical c.args.changed c.block_count-has.result c.fewest_blocks-keep.result c.if-keep-eq0.start _ _ _
    has_is c.fewest_blocks-keep.ensures starts c.shorten.ensures c.store_fork.ensures c.put_free.ensures

pub overflow_mul-after : goal.overflow_mul-after
overflow_mul-after c = rw c.fewest_blocks-keep.ensures (omega (arith, keeps_small c.requires.fork_at c.args.size c.requires.size_le_logical))
