-- `serve_find` meets its contract. Assumes nothing.
use Rattle.std.proofs.lemmas.Result.{err_from_is_err_and}
use Rattle.model.specs.Bytes.{Bytes}
use Rattle.files.proofs.Octets.{octets}
use Rattle.files.proofs.Replies.{find_refused, find_served}
use Rattle.call_read.proofs.entry_find.serve_find.Goals as goal

pub returns-in_err-named : goal.returns-in_err-named
returns-in_err-named c =
    let image_bytes : Bytes c.args.image.now = octets _ c.type_inv.image in
    let letters : Bytes c.args.name.now = octets _ c.type_inv.name in
    let p = err_from_is_err_and c.from_residual.result c.from_residual.ensures.1 in
    rw (p.1, p.2) (find_refused c.requires image_bytes letters _ c.in_err-named.ensures)

pub returns : goal.returns
returns c =
    let image_bytes : Bytes c.args.image.now = octets _ c.type_inv.image in
    let letters : Bytes c.args.name.now = octets _ c.type_inv.name in
    find_served c.requires image_bytes letters c.read_entry.ensures c.in_ok-named.ensures
