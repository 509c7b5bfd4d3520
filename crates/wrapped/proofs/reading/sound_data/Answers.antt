-- `sound_data` meets its contract. Assumes nothing.
use Rattle.std.proofs.lemmas.Result.{err_from_is_err_and}
use mathlib.Core.Path.{sym}
use Rattle.model.proofs.Container.{room}
use Rattle.wrapped.proofs.reading.sound_data.Goals as goal

pub returns-in_err-judge : goal.returns-in_err-judge
returns-in_err-judge c =
    let p = err_from_is_err_and c.from_residual.result c.from_residual.ensures.1 in
    rw (p.1, p.2) c.in_err-judge.ensures

pub data-requires : goal.data-requires
data-requires c = room _ (sym c.in_ok-judge.ensures)

pub returns : goal.returns
returns c = (sym c.in_ok-judge.ensures, c.data.ensures)
