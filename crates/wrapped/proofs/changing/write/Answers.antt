-- `write` meets its contract. Assumes nothing.
use Rattle.std.proofs.lemmas.Result.{err_from_is_err_and}
use mathlib.Core.Path.{refl, sym}
use native.Mathlib.Omega.{arith}
use Rattle.model.specs.Bytes.{Bytes}
use Rattle.model.specs.Calls.{Fits, lent, serves_wrapped}
use Rattle.model.specs.Calls.Call.{write}
use Rattle.model.proofs.Refusals.{number_some}
use Rattle.model.proofs.Container.{reach}
use Rattle.files.proofs.Octets.{octets}
use Rattle.wrapped.proofs.Serving.{stopped, changed_not, changed, room_after}
use Rattle.wrapped.proofs.changing.write.Goals as goal

pub returns-in_err-judge : goal.returns-in_err-judge
unfolding Fits lent serves_wrapped
returns-in_err-judge c =
    let file_bytes : Bytes c.args.file.now = octets _ c.slice_known-1.given in
    let a = c.args in
    let p = err_from_is_err_and c.from_residual.result c.from_residual.ensures.1 in
    rw (p.1, p.2)
    (stopped _ file_bytes (write a.name.now a.fork a.offset a.bytes.now a.changed) _ refl (octets _ c.type_inv.name, omega arith, octets _ c.type_inv.bytes, omega arith) c.in_err-judge.ensures (number_some _))

pub slice_bounds-write-end : goal.slice_bounds-write-end
slice_bounds-write-end c = reach _ _ refl (sym c.in_ok-judge.ensures)

pub returns-in_err-write : goal.returns-in_err-write
unfolding serves_wrapped
returns-in_err-write c =
    let file_bytes : Bytes c.args.file.now = octets _ c.slice_known-1.given in
    let p = err_from_is_err_and c.from_residual-in_err-write.result c.from_residual-in_err-write.ensures.1 in
    rw (p.1, p.2)
    (changed_not _ file_bytes 409684 refl c.write.new.image (sym c.in_ok-judge.ensures) refl _ c.in_err-write.ensures)

pub renew-requires : goal.renew-requires
renew-requires c = room_after _ c.write.new.image 409684 (sym c.in_ok-judge.ensures) c.write.auto.image

pub returns : goal.returns
unfolding serves_wrapped
returns c =
    let file_bytes : Bytes c.args.file.now = octets _ c.slice_known-1.given in
    changed _ file_bytes 409684 refl c.write.new.image (sym c.in_ok-judge.ensures) refl c.write.auto.image
    c.renew.new.file c.in_ok-write.ensures c.renew.ensures
