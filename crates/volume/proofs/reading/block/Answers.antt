-- `block` meets its contract. Assumes nothing.
use Rattle.std.proofs.lemmas.Result.{err_from_is_err_and}
use native.Mathlib.Omega.{arith}
use Rattle.files.proofs.Octets.{octets}
use Rattle.volume.proofs.Checked.{checked}
use Rattle.volume.proofs.Stopped.{block_stopped}
use Rattle.volume.proofs.reading.block.Goals as goal

pub returns-in_err-check : goal.returns-in_err-check
returns-in_err-check c =
    let p = err_from_is_err_and c.from_residual.result c.from_residual.ensures.1 in
    rw (p.1, p.2) (block_stopped _ c.in_err-check.ensures (octets _ c.type_inv.name) (omega arith))

pub serve_block-requires : goal.serve_block-requires
serve_block-requires c = checked _ c.in_ok-check.ensures
