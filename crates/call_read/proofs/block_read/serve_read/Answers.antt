-- `serve_read` meets its contract. Assumes nothing.
use Rattle.std.proofs.lemmas.Result.{err_from_is_err_and}
use Prim.Native.Nat.{◌^◌, ◌<◌}
use native.Mathlib.Omega.{arith}
use Rattle.model.specs.Bytes.{Bytes}
use Rattle.files.proofs.Octets.{octets}
use Rattle.files.proofs.Forks.{fork_copyable}
use Rattle.files.proofs.Replies.{read_refused, read_beyond, read_served}
use Rattle.call_read.proofs.block_read.serve_read.Goals as goal

pub returns-in_err-named : goal.returns-in_err-named
returns-in_err-named c =
    let image_bytes : Bytes c.args.image.now = octets _ c.type_inv.image in
    let letters : Bytes c.args.name.now = octets _ c.type_inv.name in
    let fits : c.args.offset < 2 ^ 64 = omega (arith, c.ranges.offset) in
    let room : Bytes c.args.buffer.now = octets _ c.type_inv.buffer in
    let p = err_from_is_err_and c.from_residual.result c.from_residual.ensures.1 in
    rw (p.1, p.2) (read_refused c.requires image_bytes letters fits room _ c.in_err-named.ensures)

pub returns-then-g-offset : goal.returns-then-g-offset
returns-then-g-offset c =
    let image_bytes : Bytes c.args.image.now = octets _ c.type_inv.image in
    let letters : Bytes c.args.name.now = octets _ c.type_inv.name in
    let fits : c.args.offset < 2 ^ 64 = omega (arith, c.ranges.offset) in
    let room : Bytes c.args.buffer.now = octets _ c.type_inv.buffer in
    read_beyond c.requires image_bytes letters fits room c.in_ok-named.ensures c.read_fork-g.ensures c.if-g-offset.true

pub copy_fork-requires : goal.copy_fork-requires
copy_fork-requires c = (fork_copyable c.requires c.in_ok-named.ensures c.args.fork c.read_fork-g.ensures, c.if-g-offset.false)

pub returns : goal.returns
returns c =
    let image_bytes : Bytes c.args.image.now = octets _ c.type_inv.image in
    let letters : Bytes c.args.name.now = octets _ c.type_inv.name in
    let fits : c.args.offset < 2 ^ 64 = omega (arith, c.ranges.offset) in
    let room : Bytes c.args.buffer.now = octets _ c.slice_known-1.given in
    read_served c.requires image_bytes letters fits room c.in_ok-named.ensures c.read_fork-g.ensures c.if-g-offset.false
    c.copy_fork.ensures.count c.copy_fork.ensures.bytes
