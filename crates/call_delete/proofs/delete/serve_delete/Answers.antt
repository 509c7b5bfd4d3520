-- `serve_delete` meets its contract. Assumes nothing.
use Rattle.std.proofs.lemmas.Result.{err_from_is_err_and}
use Rattle.model.specs.Bytes.{Bytes}
use Rattle.model.specs.Calls.{Fits}
use Rattle.model.specs.Calls.Call.{delete}
use Rattle.files.proofs.Octets.{octets}
use Rattle.files.proofs.Refusing.{delete_changing, refused}
use Rattle.call_delete.proofs.Deletes.{delete_fits, delete_served}
use Rattle.call_delete.proofs.delete.serve_delete.Goals as goal

pub returns-in_err-named : goal.returns-in_err-named
returns-in_err-named c =
    let image_bytes : Bytes c.args.image.now = octets _ c.slice_known-1.given in
    let fits : Fits (delete c.args.name.now) = delete_fits c.args.name.now (octets _ c.type_inv.name) in
    let p = err_from_is_err_and c.from_residual.result c.from_residual.ensures.1 in
    rw (p.1, p.2) (refused c.requires image_bytes delete_changing fits c.in_err-named.ensures)

pub returns : goal.returns
returns c =
    let image_bytes : Bytes c.args.image.now = octets _ c.slice_known-1.given in
    let fits : Fits (delete c.args.name.now) = delete_fits c.args.name.now (octets _ c.type_inv.name) in
    delete_served c.requires image_bytes fits c.in_ok-named.ensures c.take_file.ensures
