-- `find` meets its contract. Assumes nothing.
use Rattle.std.proofs.lemmas.Result.{err_from_is_err_and}
use Rattle.files.proofs.Octets.{octets}
use Rattle.volume.proofs.Checked.{checked}
use Rattle.volume.proofs.Stopped.{find_stopped}
use Rattle.volume.proofs.reading.find.Goals as goal

pub returns-in_err-check : goal.returns-in_err-check
returns-in_err-check c =
    let p = err_from_is_err_and c.from_residual.result c.from_residual.ensures.1 in
    rw (p.1, p.2) (find_stopped _ c.in_err-check.ensures (octets _ c.type_inv.name))

pub serve_find-requires : goal.serve_find-requires
serve_find-requires c = checked _ c.in_ok-check.ensures
