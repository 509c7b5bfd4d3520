-- `entry` meets its contract. Assumes nothing.
use Rattle.std.proofs.lemmas.Result.{err_from_is_err_and}
use native.Mathlib.Omega.{arith}
use Rattle.volume.proofs.Checked.{checked}
use Rattle.volume.proofs.Stopped.{entry_stopped}
use Rattle.volume.proofs.reading.entry.Goals as goal

pub returns-in_err-check : goal.returns-in_err-check
returns-in_err-check c =
    let p = err_from_is_err_and c.from_residual.result c.from_residual.ensures.1 in
    rw (p.1, p.2) (entry_stopped _ c.in_err-check.ensures (omega arith))

pub serve_entry-requires : goal.serve_entry-requires
serve_entry-requires c = checked _ c.in_ok-check.ensures
