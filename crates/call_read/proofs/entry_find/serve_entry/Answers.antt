-- `serve_entry` meets its contract. Assumes nothing.
use native.Mathlib.Omega.{arith}
use Rattle.model.specs.Bytes.{Bytes}
use Rattle.files.proofs.Octets.{octets}
use Rattle.files.proofs.Lookups.{first_passes, first_rest}
use Rattle.files.proofs.Replies.{entry_refused, entry_served}
use Rattle.call_read.proofs.entry_find.serve_entry.Goals as goal

pub entry_at-requires : goal.entry_at-requires
entry_at-requires c = first_passes c.requires c.first_entry.ensures

pub returns-in-Some : goal.returns-in-Some
returns-in-Some c =
    let image_bytes : Bytes c.args.image.now = octets _ c.type_inv.image in
    let there = rw (first_rest c.requires c.first_entry.ensures) at c.in-Some.ensures in
    entry_served c.requires image_bytes (omega arith) c.read_entry.ensures there

pub returns-in-None : goal.returns-in-None
returns-in-None c =
    let image_bytes : Bytes c.args.image.now = octets _ c.type_inv.image in
    entry_refused c.requires image_bytes (omega arith)
    (rw (first_rest c.requires c.first_entry.ensures) at c.in-None.ensures)
