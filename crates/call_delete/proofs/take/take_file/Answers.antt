-- `take_file` meets its contract. Assumes nothing.
use Prim.Native.Nat.{ℕ, ◌+◌, ◌/◌, ◌≤◌}
use mathlib.Core.Path.{◌≡◌}
use native.Mathlib.Omega.{arith}
use mir.Syntax.{w16}
use mir.Val.{Fits}
use Rattle.model.specs.Facts.{A, free_count}
use Rattle.model.specs.Map.{map_entry, chain_blocks, put_free}
use Rattle.model.specs.Directory.{block_count}
use Rattle.model.specs.declared.Fork.TheVariants.{Data}
use Rattle.files.proofs.Forks.{long_image}
use Rattle.files.proofs.Owned.{few, some_file, fork_runs}
use Rattle.call_delete.proofs.Freed.{both_small, resource_runs, delete_block, delete_stands, delete_lies, delete_leaves}
use Rattle.call_delete.proofs.take.take_file.Goals as goal

-- sizes that fit: p free blocks, q and r of the forks

data_fits : (p q r : ℕ) → p + q + r ≤ 640 → Fits w16 q
data_fits p q r h = omega arith

resource_fits : (p q r : ℕ) → p + q + r ≤ 640 → Fits w16 r
resource_fits p q r h = omega arith

two_fit : (p q r : ℕ) → p + q + r ≤ 640 → Fits w16 (p + q)
two_fit p q r h = omega arith

all_fit : (p q r : ℕ) → p + q + r ≤ 640 → Fits w16 (p + q + r)
all_fit p q r h = omega arith

still_long : (n m : ℕ) → n ≡ m → 2048 ≤ m → 2048 ≤ n
still_long n m e h = omega arith

pub overflow_cast-in_data : goal.overflow_cast-in_data
unfolding block_count
overflow_cast-in_data c =
    let small : free_count c.args.f + c.read_fork-data.result.physical / A c.args.f + c.read_fork-resource.result.physical / A c.args.f
    ≤ 640 = both_small c.requires c.read_fork-data.result c.read_fork-resource.result c.read_fork-data.ensures c.read_fork-resource.ensures in
    let data_is : c.block_count-in_data.result ≡ c.read_fork-data.result.physical / A c.args.f = c.block_count-in_data.ensures in
    rw data_is (data_fits _ _ _ small)

pub overflow_cast-in_resource : goal.overflow_cast-in_resource
unfolding block_count
overflow_cast-in_resource c =
    let small : free_count c.args.f + c.read_fork-data.result.physical / A c.args.f + c.read_fork-resource.result.physical / A c.args.f
    ≤ 640 = both_small c.requires c.read_fork-data.result c.read_fork-resource.result c.read_fork-data.ensures c.read_fork-resource.ensures in
    let resource_is : c.block_count-in_resource.result ≡ c.read_fork-resource.result.physical / A c.args.f = c.block_count-in_resource.ensures in
    rw resource_is (resource_fits _ _ _ small)

pub free_chain-requires : goal.free_chain-requires
unfolding block_count
free_chain-requires c =
    let data_is : c.block_count-in_data.result ≡ c.read_fork-data.result.physical / A c.args.f = c.block_count-in_data.ensures in
    rw data_is (
      few c.requires,
      long_image c.requires.readable,
      fork_runs c.requires Data c.read_fork-data.result c.read_fork-data.ensures,
    )

pub free_chain-requires-2 : goal.free_chain-requires-2
unfolding block_count
free_chain-requires-2 c =
    let resource_is : c.block_count-in_resource.result ≡ c.read_fork-resource.result.physical / A c.args.f = c.block_count-in_resource.ensures in
    let data_is : c.block_count-in_data.result ≡ c.read_fork-data.result.physical / A c.args.f = c.block_count-in_data.ensures in
    let data_freed : let a = c.args in let d = c.read_fork-data.result in
    c.free_chain.new.image ≡ put_free a.image.now (chain_blocks (map_entry a.image.now) (d.physical / A a.f) d.start.0) = rw data_is at c.free_chain.ensures in
    rw resource_is (
      few c.requires,
      still_long _ _ c.free_chain.auto.image (long_image c.requires.readable),
      resource_runs c.requires c.read_fork-data.result c.read_fork-resource.result c.read_fork-data.ensures c.read_fork-resource.ensures _ data_freed,
    )

pub remove_entry-requires : goal.remove_entry-requires
unfolding block_count
remove_entry-requires c =
    let data_is : c.block_count-in_data.result ≡ c.read_fork-data.result.physical / A c.args.f = c.block_count-in_data.ensures in
    let data_freed : let a = c.args in let d = c.read_fork-data.result in
    c.free_chain.new.image ≡ put_free a.image.now (chain_blocks (map_entry a.image.now) (d.physical / A a.f) d.start.0) = rw data_is at c.free_chain.ensures in
    let resource_is : c.block_count-in_resource.result ≡ c.read_fork-resource.result.physical / A c.args.f = c.block_count-in_resource.ensures in
    let both_freed : let x = c.free_chain.new.image in let r = c.read_fork-resource.result in
    c.free_chain-2.new.image ≡ put_free x (chain_blocks (map_entry x) (r.physical / A c.args.f) r.start.0) = rw resource_is at c.free_chain-2.ensures in
    let h = c.requires in
    let d = c.read_fork-data in
    let r = c.read_fork-resource in record {
      block = delete_block h d.result r.result d.ensures r.ensures _ data_freed _ (both_freed);
      stands = delete_stands h d.result r.result d.ensures r.ensures _ data_freed _ (both_freed);
      lies = delete_lies h d.result r.result d.ensures r.ensures _ data_freed _ (both_freed);
    }

pub overflow_sub-f : goal.overflow_sub-f
overflow_sub-f c = some_file c.requires

pub overflow_add-f : goal.overflow_add-f
unfolding block_count
overflow_add-f c =
    let small : free_count c.args.f + c.read_fork-data.result.physical / A c.args.f + c.read_fork-resource.result.physical / A c.args.f
    ≤ 640 = both_small c.requires c.read_fork-data.result c.read_fork-resource.result c.read_fork-data.ensures c.read_fork-resource.ensures in
    let data_is : c.block_count-in_data.result ≡ c.read_fork-data.result.physical / A c.args.f = c.block_count-in_data.ensures in
    rw data_is (two_fit _ _ _ small)

pub overflow_add-f-2 : goal.overflow_add-f-2
unfolding block_count
overflow_add-f-2 c =
    let small : free_count c.args.f + c.read_fork-data.result.physical / A c.args.f + c.read_fork-resource.result.physical / A c.args.f
    ≤ 640 = both_small c.requires c.read_fork-data.result c.read_fork-resource.result c.read_fork-data.ensures c.read_fork-resource.ensures in
    let data_is : c.block_count-in_data.result ≡ c.read_fork-data.result.physical / A c.args.f = c.block_count-in_data.ensures in
    let resource_is : c.block_count-in_resource.result ≡ c.read_fork-resource.result.physical / A c.args.f = c.block_count-in_resource.ensures in
    let free_is : let f = c.args.f in
    free_count f + c.block_count-in_data.result + c.block_count-in_resource.result
    ≡ free_count f + c.read_fork-data.result.physical / A f + c.read_fork-resource.result.physical / A f = λ i. free_count c.args.f + data_is i + resource_is i in
    rw free_is (all_fit _ _ _ small)

pub returns : goal.returns
unfolding block_count
returns c =
    let data_is : c.block_count-in_data.result ≡ c.read_fork-data.result.physical / A c.args.f = c.block_count-in_data.ensures in
    let data_freed : let a = c.args in let d = c.read_fork-data.result in
    c.free_chain.new.image ≡ put_free a.image.now (chain_blocks (map_entry a.image.now) (d.physical / A a.f) d.start.0) = rw data_is at c.free_chain.ensures in
    let resource_is : c.block_count-in_resource.result ≡ c.read_fork-resource.result.physical / A c.args.f = c.block_count-in_resource.ensures in
    let both_freed : let x = c.free_chain.new.image in let r = c.read_fork-resource.result in
    c.free_chain-2.new.image ≡ put_free x (chain_blocks (map_entry x) (r.physical / A c.args.f) r.start.0) = rw resource_is at c.free_chain-2.ensures in
    let free_is : let f = c.args.f in
    free_count f + c.block_count-in_data.result + c.block_count-in_resource.result
    ≡ free_count f + c.read_fork-data.result.physical / A f + c.read_fork-resource.result.physical / A f = λ i. free_count c.args.f + data_is i + resource_is i in
    delete_leaves c.requires c.read_fork-data.result c.read_fork-resource.result c.read_fork-data.ensures c.read_fork-resource.ensures
    _ data_freed _ both_freed _ _ _ _
    c.remove_entry.ensures c.put_files.ensures free_is c.put_free.ensures
