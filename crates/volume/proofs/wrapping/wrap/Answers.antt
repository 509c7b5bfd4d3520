-- `wrap` meets its contract. Assumes nothing.
use Rattle.std.proofs.Common.{Ok, Err}
use Rattle.std.proofs.lemmas.Result.{err_from_is_err_and}
use mathlib.Core.Path.{sym, ◌∙◌}
use native.Mathlib.Omega.{arith}
use Rattle.model.specs.Bytes.{Bytes}
use Rattle.container.proofs.Filling.{good_lengths}
use Rattle.model.proofs.Refusals.{number_some}
use Rattle.files.proofs.Octets.{octets}
use Rattle.volume.proofs.Checked.{number_is}
use Rattle.volume.proofs.Wraps.{wrap_unfit, wrap_refused, wrap_done}
use Rattle.volume.proofs.wrapping.wrap.Goals as goal

pub returns-then-bad_lengths : goal.returns-then-bad_lengths
returns-then-bad_lengths c =
    let image_bytes : Bytes c.args.image.now = octets _ c.type_inv.image in
    let name_bytes : Bytes c.args.name.now = octets _ c.shared_slice_known-2-1.given in
    let buffer_bytes : Bytes c.args.buffer.now = octets _ c.slice_known-1.given in
    wrap_unfit _ _ _ _ image_bytes name_bytes (omega arith) buffer_bytes (sym c.bad_lengths.ensures ∙ c.if-bad_lengths.true)

pub returns-in_err-check : goal.returns-in_err-check
returns-in_err-check c =
    let image_bytes : Bytes c.args.image.now = octets _ c.type_inv.image in
    let name_bytes : Bytes c.args.name.now = octets _ c.type_inv.name in
    let buffer_bytes : Bytes c.args.buffer.now = octets _ c.type_inv.buffer in
    let passes = sym c.bad_lengths.ensures ∙ c.if-bad_lengths.false in
    let p = err_from_is_err_and c.from_residual.result c.from_residual.ensures.1 in
    rw (p.1, p.2)
    (wrap_refused _ _ _ _ image_bytes name_bytes (omega arith) buffer_bytes passes (number_is (Err _) c.in_err-check.ensures) (number_some _))

pub fill-requires : goal.fill-requires
fill-requires c =
    let passes = sym c.bad_lengths.ensures ∙ c.if-bad_lengths.false in
    good_lengths _ _ _ passes

pub returns : goal.returns
returns c =
    let image_bytes : Bytes c.args.image.now = octets _ c.type_inv.image in
    let name_bytes : Bytes c.args.name.now = octets _ c.type_inv.name in
    let buffer_bytes : Bytes c.args.buffer.now = octets _ c.slice_known-1.given in
    let passes = sym c.bad_lengths.ensures ∙ c.if-bad_lengths.false in
    wrap_done _ _ _ _ image_bytes name_bytes (omega arith) buffer_bytes passes
    (sym (number_is (Ok _) c.in_ok-check.ensures)) c.fill.ensures
