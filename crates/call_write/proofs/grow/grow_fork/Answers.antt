-- `grow_fork` meets its contract. Assumes nothing.
use Prim.Native.Nat.{ℕ, ◌+◌, ◌*◌, ◌/◌, ◌≤◌, max}
use mathlib.Core.Path.{◌≡◌, ap}
use native.Mathlib.Omega.{arith}
use mir.Syntax.{w16, w32}
use mir.Val.{Fits}
use lib.ListN.{length}
use Rattle.model.specs.Lists.{first_or0}
use Rattle.model.specs.Facts.{A}
use Rattle.model.specs.Map.{put_chain}
use Rattle.model.specs.Directory.{block_count}
use Rattle.files.specs.Lookup.{FileAt}
use Rattle.files.proofs.Forks.{few_in_volume, free_blocks_lem, long_image, has_chain}
use Rattle.call_write.proofs.Grown.{grown_blocks, grown_base, grown_few, grown_fillable, grown_stored}
use Rattle.call_write.proofs.Grown.{grown_fits, grown_most, grown_stands, grown_written}
use Rattle.call_write.proofs.grow.grow_fork.Goals as goal

-- sizes that fit: p blocks and q more of them, and bytes up to a or up to b, in a room of m

count_fits : (p q : ℕ) → p + q ≤ 640 → Fits w16 p
count_fits p q h = omega arith

sum_fits : (p q : ℕ) → p + q ≤ 640 → Fits w16 (p + q)
sum_fits p q h = omega arith

sum_wide : (p q : ℕ) → p + q ≤ 640 → Fits w32 (p + q)
sum_wide p q h = omega arith

room_fits : (m : ℕ) → m ≤ 20971520 → Fits w32 m
room_fits m h = omega arith

within : (a b m : ℕ) → max a b ≤ m → b ≤ m
within a b m h = omega arith

larger_fits : (r a b m : ℕ) → r ≡ max a b → max a b ≤ m → m ≤ 20971520 → Fits w32 r
larger_fits r a b m e h k = omega arith

enough : (n a b : ℕ) → n ≤ a → a ≡ b → n ≤ b
enough n a b h e = omega arith

pub overflow_cast-has : goal.overflow_cast-has
unfolding block_count
overflow_cast-has c =
    let held : FileAt c.args.f c.args.image.now c.args.e = c.requires.fork_at.held in
    let blocks_few : c.args.g.physical / A c.args.f + c.args.new ≤ 640 = grown_few held c.args.fork c.args.g c.requires.fork_at.is c.args.new c.requires.offset_le_logical.2 in
    let has_is : c.block_count-has.result ≡ c.args.g.physical / A c.args.f = c.block_count-has.ensures in
    rw has_is (count_fits _ _ blocks_few)

pub extend-start-requires : goal.extend-start-requires
unfolding block_count
extend-start-requires c =
    let held : FileAt c.args.f c.args.image.now c.args.e = c.requires.fork_at.held in
    let has_is : c.block_count-has.result ≡ c.args.g.physical / A c.args.f = c.block_count-has.ensures in
    let h = held in
    rw has_is (
      few_in_volume h.readable,
      long_image h.readable,
      has_chain h.readable h.found c.args.fork c.requires.fork_at.is,
      enough _ _ _ c.requires.offset_le_logical.2 (free_blocks_lem h.readable),
    )

pub overflow_add-blocks : goal.overflow_add-blocks
unfolding block_count
overflow_add-blocks c =
    let held : FileAt c.args.f c.args.image.now c.args.e = c.requires.fork_at.held in
    let blocks_few : c.args.g.physical / A c.args.f + c.args.new ≤ 640 = grown_few held c.args.fork c.args.g c.requires.fork_at.is c.args.new c.requires.offset_le_logical.2 in
    let has_is : c.block_count-has.result ≡ c.args.g.physical / A c.args.f = c.block_count-has.ensures in
    rw has_is (sum_fits _ _ blocks_few)

pub fill_fork-requires : goal.fill_fork-requires
unfolding block_count
fill_fork-requires c =
    let held : FileAt c.args.f c.args.image.now c.args.e = c.requires.fork_at.held in
    let bytes_fit : max c.args.g.logical (c.args.offset + length c.args.bytes.now)
    ≤ (c.args.g.physical / A c.args.f + c.args.new) * A c.args.f = grown_fits held c.args.fork c.args.g c.requires.fork_at.is c.args.new c.requires.offset_le_logical.2
    c.args.offset c.args.bytes.now c.requires.offset_le_logical.0 c.requires.offset_le_logical.1 in
    let has_is : c.block_count-has.result ≡ c.args.g.physical / A c.args.f = c.block_count-has.ensures in
    let chain_put : let a = c.args in c.extend-start.new.image ≡ put_chain a.image.now (grown_blocks a.f a.image.now a.g a.new) = rw has_is at c.extend-start.ensures.after in
    let first_is : let a = c.args in c.extend-start.result.0 ≡ first_or0 (grown_blocks a.f a.image.now a.g a.new) = rw has_is at c.extend-start.ensures.start in
    rw has_is (
      grown_fillable held c.args.fork c.args.g c.requires.fork_at.is c.args.new c.requires.offset_le_logical.2
          c.extend-start.new.image c.extend-start.result.0 chain_put first_is,
      within _ _ _ bytes_fit,
    )

pub overflow_cast-after : goal.overflow_cast-after
overflow_cast-after c =
    let held : FileAt c.args.f c.args.image.now c.args.e = c.requires.fork_at.held in
    let bytes_fit : max c.args.g.logical (c.args.offset + length c.args.bytes.now)
    ≤ (c.args.g.physical / A c.args.f + c.args.new) * A c.args.f = grown_fits held c.args.fork c.args.g c.requires.fork_at.is c.args.new c.requires.offset_le_logical.2
    c.args.offset c.args.bytes.now c.requires.offset_le_logical.0 c.requires.offset_le_logical.1 in
    let bytes_most : (c.args.g.physical / A c.args.f + c.args.new) * A c.args.f ≤ 20971520 = grown_most held c.args.fork c.args.g c.requires.fork_at.is c.args.new c.requires.offset_le_logical.2 in
    larger_fits _ _ _ _ c.max.ensures bytes_fit bytes_most

pub store_fork-requires : goal.store_fork-requires
unfolding block_count
store_fork-requires c =
    let held : FileAt c.args.f c.args.image.now c.args.e = c.requires.fork_at.held in
    let has_is : c.block_count-has.result ≡ c.args.g.physical / A c.args.f = c.block_count-has.ensures in
    let chain_put : let a = c.args in c.extend-start.new.image ≡ put_chain a.image.now (grown_blocks a.f a.image.now a.g a.new) = rw has_is at c.extend-start.ensures.after in
    let first_is : let a = c.args in c.extend-start.result.0 ≡ first_or0 (grown_blocks a.f a.image.now a.g a.new) = rw has_is at c.extend-start.ensures.start in
    let stored : let a = c.args in
    c.fill_fork.new.image ≡ grown_base a.f a.image.now a.g a.new a.offset a.bytes.now = grown_stored held c.args.fork c.args.g c.requires.fork_at.is c.args.new c.requires.offset_le_logical.2
    c.extend-start.new.image c.extend-start.result.0 chain_put first_is
    c.args.offset c.args.bytes.now c.fill_fork.new.image (rw has_is at c.fill_fork.ensures) in
    grown_stands held c.args.fork c.args.g c.requires.fork_at.is c.args.new c.requires.offset_le_logical.2
    c.args.offset c.args.bytes.now c.requires.offset_le_logical.0 c.requires.offset_le_logical.1 c.fill_fork.new.image stored

pub returns : goal.returns
unfolding block_count
returns c =
    let has_is : c.block_count-has.result ≡ c.args.g.physical / A c.args.f = c.block_count-has.ensures in
    let first_is : let a = c.args in c.extend-start.result.0 ≡ first_or0 (grown_blocks a.f a.image.now a.g a.new) = rw has_is at c.extend-start.ensures.start in
    let held : FileAt c.args.f c.args.image.now c.args.e = c.requires.fork_at.held in
    let chain_put : let a = c.args in c.extend-start.new.image ≡ put_chain a.image.now (grown_blocks a.f a.image.now a.g a.new) = rw has_is at c.extend-start.ensures.after in
    let stored : let a = c.args in
    c.fill_fork.new.image ≡ grown_base a.f a.image.now a.g a.new a.offset a.bytes.now = grown_stored held c.args.fork c.args.g c.requires.fork_at.is c.args.new c.requires.offset_le_logical.2
    c.extend-start.new.image c.extend-start.result.0 chain_put first_is
    c.args.offset c.args.bytes.now c.fill_fork.new.image (rw has_is at c.fill_fork.ensures) in
    λ h. grown_written h c.args.fork c.args.g c.requires.fork_at.is c.args.new c.requires.offset_le_logical.2
    c.args.offset c.args.bytes.now c.requires.offset_le_logical.0 c.requires.offset_le_logical.1
    c.fill_fork.new.image c.store_fork.new.image c.put_free.new.image c.extend-start.result.0 c.max.result
    (c.block_count-has.result + c.args.new) c.args.changed
    stored first_is c.max.ensures (ap (λ (n : ℕ). n + c.args.new) has_is) c.store_fork.ensures c.put_free.ensures

pub overflow_cast-after-2 : goal.overflow_cast-after-2
unfolding block_count
overflow_cast-after-2 c =
    let held : FileAt c.args.f c.args.image.now c.args.e = c.requires.fork_at.held in
    let blocks_few : c.args.g.physical / A c.args.f + c.args.new ≤ 640 = grown_few held c.args.fork c.args.g c.requires.fork_at.is c.args.new c.requires.offset_le_logical.2 in
    let has_is : c.block_count-has.result ≡ c.args.g.physical / A c.args.f = c.block_count-has.ensures in
    rw has_is (sum_wide _ _ blocks_few)

pub overflow_mul-after : goal.overflow_mul-after
unfolding block_count
overflow_mul-after c =
    let held : FileAt c.args.f c.args.image.now c.args.e = c.requires.fork_at.held in
    let bytes_most : (c.args.g.physical / A c.args.f + c.args.new) * A c.args.f ≤ 20971520 = grown_most held c.args.fork c.args.g c.requires.fork_at.is c.args.new c.requires.offset_le_logical.2 in
    let has_is : c.block_count-has.result ≡ c.args.g.physical / A c.args.f = c.block_count-has.ensures in
    rw has_is (room_fits _ bytes_most)
