-- `delete` meets its contract. Assumes nothing.
use Rattle.std.proofs.lemmas.Result.{err_from_is_err_and}
use mathlib.Core.Path.{refl, sym}
use Rattle.model.specs.Bytes.{Bytes}
use Rattle.model.specs.Calls.{Fits, lent, serves_wrapped}
use Rattle.model.specs.Calls.Call.{delete}
use Rattle.model.proofs.Refusals.{number_some}
use Rattle.model.proofs.Container.{reach}
use Rattle.files.proofs.Octets.{octets}
use Rattle.wrapped.proofs.Serving.{stopped, changed_not, changed, room_after}
use Rattle.wrapped.proofs.changing.delete.Goals as goal

pub returns-in_err-judge : goal.returns-in_err-judge
unfolding Fits lent serves_wrapped
returns-in_err-judge c =
    let file_bytes : Bytes c.args.file.now = octets _ c.slice_known-1.given in
    let a = c.args in
    let p = err_from_is_err_and c.from_residual.result c.from_residual.ensures.1 in
    rw (p.1, p.2)
    (stopped _ file_bytes (delete a.name.now) _ refl (octets _ c.type_inv.name) c.in_err-judge.ensures (number_some _))

pub slice_bounds-delete-end : goal.slice_bounds-delete-end
slice_bounds-delete-end c = reach _ _ refl (sym c.in_ok-judge.ensures)

pub returns-in_err-delete : goal.returns-in_err-delete
unfolding serves_wrapped
returns-in_err-delete c =
    let file_bytes : Bytes c.args.file.now = octets _ c.slice_known-1.given in
    let p = err_from_is_err_and c.from_residual-in_err-delete.result c.from_residual-in_err-delete.ensures.1 in
    rw (p.1, p.2)
    (changed_not _ file_bytes 409684 refl c.delete.new.image (sym c.in_ok-judge.ensures) refl _ c.in_err-delete.ensures)

pub renew-requires : goal.renew-requires
renew-requires c = room_after _ c.delete.new.image 409684 (sym c.in_ok-judge.ensures) c.delete.auto.image

pub returns : goal.returns
unfolding serves_wrapped
returns c =
    let file_bytes : Bytes c.args.file.now = octets _ c.slice_known-1.given in
    changed _ file_bytes 409684 refl c.delete.new.image (sym c.in_ok-judge.ensures) refl c.delete.auto.image
    c.renew.new.file c.in_ok-delete.ensures c.renew.ensures
