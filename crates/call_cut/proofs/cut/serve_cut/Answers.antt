-- `serve_cut` meets its contract. Assumes nothing.
use Rattle.std.proofs.lemmas.Result.{err_from_is_err_and}
use native.Mathlib.Omega.{arith}
use Rattle.model.specs.Bytes.{Bytes}
use Rattle.model.specs.Calls.{Fits}
use Rattle.model.specs.Calls.Call.{cut}
use Rattle.files.proofs.Octets.{octets}
use Rattle.files.proofs.Refusing.{cut_changing, refused}
use Rattle.call_cut.proofs.Cuts.{cut_fits, cut_served}
use Rattle.call_cut.proofs.cut.serve_cut.Goals as goal

pub returns-in_err-named : goal.returns-in_err-named
returns-in_err-named c =
    let image_bytes : Bytes c.args.image.now = octets _ c.slice_known-1.given in
    let fits : Fits (cut c.args.name.now c.args.fork c.args.size c.args.changed) = cut_fits c.args.name.now c.args.fork c.args.size c.args.changed
    (octets _ c.type_inv.name) (omega arith) (omega arith) in
    let p = err_from_is_err_and c.from_residual.result c.from_residual.ensures.1 in
    rw (p.1, p.2) (refused c.requires image_bytes cut_changing fits c.in_err-named.ensures)

pub returns : goal.returns
returns c =
    let image_bytes : Bytes c.args.image.now = octets _ c.slice_known-1.given in
    let fits : Fits (cut c.args.name.now c.args.fork c.args.size c.args.changed) = cut_fits c.args.name.now c.args.fork c.args.size c.args.changed
    (octets _ c.type_inv.name) (omega arith) (omega arith) in
    cut_served c.requires image_bytes c.in_ok-named.ensures fits c.shorten_fork.ensures
