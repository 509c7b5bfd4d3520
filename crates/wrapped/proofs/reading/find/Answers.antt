-- `find` meets its contract. Assumes nothing.
use Rattle.std.proofs.lemmas.Result.{err_from_is_err_and}
use mathlib.Core.Path.{refl}
use Rattle.model.specs.Bytes.{Bytes}
use Rattle.model.specs.Calls.{Fits, only, lent, serves_wrapped}
use Rattle.model.specs.Calls.Call.{find}
use Rattle.model.proofs.Refusals.{number_some}
use Rattle.files.proofs.Octets.{octets}
use Rattle.wrapped.proofs.Serving.{stopped, served}
use Rattle.wrapped.proofs.reading.find.Goals as goal

pub returns-in_err-sound_data : goal.returns-in_err-sound_data
unfolding Fits only lent serves_wrapped
returns-in_err-sound_data c =
    let file_bytes : Bytes c.args.file.now = octets _ c.type_inv.file in
    let a = c.args in
    let p = err_from_is_err_and c.from_residual.result c.from_residual.ensures.1 in
    rw (p.1, p.2)
    (stopped _ file_bytes (find a.name.now) _ refl (octets _ c.type_inv.name) c.in_err-sound_data.ensures (number_some _))

pub returns : goal.returns
unfolding serves_wrapped
returns c =
    let file_bytes : Bytes c.args.file.now = octets _ c.type_inv.file in
    served _ file_bytes c.in_ok-sound_data.ensures.0 refl c.in_ok-sound_data.ensures.1 c.find.ensures
