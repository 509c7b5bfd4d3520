-- `cut` meets its contract. Assumes nothing.
use Rattle.std.proofs.lemmas.Result.{err_from_is_err_and}
use native.Mathlib.Omega.{arith}
use Rattle.files.proofs.Octets.{octets}
use Rattle.volume.proofs.Checked.{checked}
use Rattle.volume.proofs.Stopped.{cut_stopped}
use Rattle.volume.proofs.changing.cut.Goals as goal

pub returns-in_err-facts : goal.returns-in_err-facts
returns-in_err-facts c =
    let p = err_from_is_err_and c.from_residual.result c.from_residual.ensures.1 in
    rw (p.1, p.2) (cut_stopped _ c.in_err-facts.ensures (octets _ c.type_inv.name) (omega arith) (omega arith))

pub serve_cut-requires : goal.serve_cut-requires
serve_cut-requires c = checked _ c.in_ok-facts.ensures
