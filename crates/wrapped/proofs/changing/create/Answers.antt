-- `create` meets its contract. Assumes nothing.
use Rattle.std.proofs.lemmas.Result.{err_from_is_err_and}
use mathlib.Core.Path.{refl, sym}
use native.Mathlib.Omega.{arith}
use Rattle.model.specs.Bytes.{Bytes}
use Rattle.model.specs.Calls.{Fits, lent, serves_wrapped}
use Rattle.model.specs.Calls.Call.{create}
use Rattle.model.proofs.Refusals.{number_some}
use Rattle.model.proofs.Container.{reach}
use Rattle.files.proofs.Octets.{octets}
use Rattle.wrapped.proofs.Serving.{stopped, changed_not, changed, room_after}
use Rattle.wrapped.proofs.changing.create.Goals as goal

pub returns-in_err-judge : goal.returns-in_err-judge
unfolding Fits lent serves_wrapped
returns-in_err-judge c =
    let file_bytes : Bytes c.args.file.now = octets _ c.slice_known-1.given in
    let a = c.args in
    let p = err_from_is_err_and c.from_residual.result c.from_residual.ensures.1 in
    rw (p.1, p.2)
    (stopped _ file_bytes (create a.name.now a.finder.now a.created a.changed) _ refl (octets _ c.type_inv.name, c.whole.ensures.1, c.whole.ensures.0, omega arith, omega arith) c.in_err-judge.ensures (number_some _))

pub slice_bounds-create-end : goal.slice_bounds-create-end
slice_bounds-create-end c = reach _ _ refl (sym c.in_ok-judge.ensures)

pub returns-in_err-create : goal.returns-in_err-create
unfolding serves_wrapped
returns-in_err-create c =
    let file_bytes : Bytes c.args.file.now = octets _ c.slice_known-1.given in
    let p = err_from_is_err_and c.from_residual-in_err-create.result c.from_residual-in_err-create.ensures.1 in
    rw (p.1, p.2)
    (changed_not _ file_bytes 409684 refl c.create.new.image (sym c.in_ok-judge.ensures) refl _ c.in_err-create.ensures)

pub renew-requires : goal.renew-requires
renew-requires c = room_after _ c.create.new.image 409684 (sym c.in_ok-judge.ensures) c.create.auto.image

pub returns : goal.returns
unfolding serves_wrapped
returns c =
    let file_bytes : Bytes c.args.file.now = octets _ c.slice_known-1.given in
    changed _ file_bytes 409684 refl c.create.new.image (sym c.in_ok-judge.ensures) refl c.create.auto.image
    c.renew.new.file c.in_ok-create.ensures c.renew.ensures
