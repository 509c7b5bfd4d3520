-- `serve_block` meets its contract. Assumes nothing.
use Rattle.std.proofs.lemmas.Result.{err_from_is_err_and}
use Prim.Native.Nat.{◌/◌, ◌<◌}
use native.Mathlib.Omega.{arith}
use Rattle.model.specs.Facts.{A}
use Rattle.model.specs.Bytes.{Bytes}
use Rattle.model.specs.Directory.{block_count}
use Rattle.files.proofs.Octets.{octets}
use Rattle.files.proofs.Forks.{few_blocks, has_place, long_image}
use Rattle.files.proofs.Replies.{block_refused, block_beyond, block_served}
use Rattle.call_read.proofs.block_read.serve_block.Goals as goal

pub returns-in_err-named : goal.returns-in_err-named
returns-in_err-named c =
    let image_bytes : Bytes c.args.image.now = octets _ c.type_inv.image in
    let letters : Bytes c.args.name.now = octets _ c.type_inv.name in
    let p = err_from_is_err_and c.from_residual.result c.from_residual.ensures.1 in
    rw (p.1, p.2) (block_refused c.requires image_bytes letters (omega arith) _ c.in_err-named.ensures)

pub returns-then-block_count-place : goal.returns-then-block_count-place
unfolding block_count
returns-then-block_count-place c =
    let image_bytes : Bytes c.args.image.now = octets _ c.type_inv.image in
    let letters : Bytes c.args.name.now = octets _ c.type_inv.name in
    block_beyond c.requires image_bytes letters (omega arith) c.in_ok-named.ensures c.read_fork-g.ensures
    (omega (arith, c.block_count.ensures, c.if-block_count-place.true))

pub overflow_cast-place : goal.overflow_cast-place
unfolding block_count
overflow_cast-place c =
    let below : c.args.place < c.read_fork-g.result.physical / A c.args.f = omega (arith, c.block_count.ensures, c.if-block_count-place.false) in
    omega (arith, few_blocks c.requires c.in_ok-named.ensures c.args.fork c.read_fork-g.ensures c.args.place below)

pub block_at-requires : goal.block_at-requires
unfolding block_count
block_at-requires c =
    let below : c.args.place < c.read_fork-g.result.physical / A c.args.f = omega (arith, c.block_count.ensures, c.if-block_count-place.false) in (
      has_place c.requires c.in_ok-named.ensures c.args.fork c.read_fork-g.ensures c.args.place below,
      long_image c.requires,
    )

pub returns : goal.returns
unfolding block_count
returns c =
    let image_bytes : Bytes c.args.image.now = octets _ c.type_inv.image in
    let letters : Bytes c.args.name.now = octets _ c.type_inv.name in
    let below : c.args.place < c.read_fork-g.result.physical / A c.args.f = omega (arith, c.block_count.ensures, c.if-block_count-place.false) in
    block_served c.requires image_bytes letters (omega arith) c.in_ok-named.ensures c.read_fork-g.ensures below c.block_at.ensures
