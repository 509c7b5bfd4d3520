-- `serve_write` meets its contract. Assumes nothing.
use Rattle.std.proofs.lemmas.Result.{err_from_is_err_and}
use mathlib.Core.Path.{◌≡◌, refl, ap, ◌∙◌}
use native.Mathlib.Omega.{arith}
use lib.ListN.{length}
use Rattle.model.specs.Bytes.{Bytes}
use Rattle.model.specs.Facts.{A, clump, free_count}
use Rattle.model.specs.Directory.{block_count}
use Rattle.model.specs.Calls.{Fits, taken, taken_blocks}
use Rattle.model.specs.Calls.Call.{write}
use Rattle.files.proofs.Octets.{octets}
use Rattle.files.proofs.Forks.{large_block}
use Rattle.files.proofs.Refusing.{write_changing, changed_fork_at, refused}
use Rattle.laws.proofs.Counts.{taken_are_free}
use Rattle.std.specs.Prelude.{Ok, Err}
use Rattle.model.proofs.Refusals.{number_some}
use Rattle.forks.proofs.Growing.{grows_free}
use Rattle.call_write.proofs.Written.{write_fits, write_full, write_served}
use Rattle.call_write.proofs.write.serve_write.Goals as goal

pub returns-in_err-needed : goal.returns-in_err-needed
returns-in_err-needed c =
    let image_bytes : Bytes c.args.image.now = octets _ c.slice_known-1.given in
    let fits : Fits (write c.args.name.now c.args.fork c.args.offset c.args.bytes.now c.args.changed) = write_fits c.args.name.now c.args.fork c.args.offset c.args.bytes.now c.args.changed
    (octets _ c.type_inv.name) (omega (arith, c.ranges.offset))
    (octets _ c.type_inv.bytes) (omega (arith, c.ranges.changed)) in
    let p = err_from_is_err_and c.from_residual-in_err-needed.result c.from_residual-in_err-needed.ensures.1 in
    rw (p.1, p.2) (write_full c.requires c.in_ok-named.ensures image_bytes fits (Err _) c.in_err-needed.ensures (number_some _))

-- those needed are free, and so are those taken
pub grow_fork-requires : goal.grow_fork-requires
unfolding taken_blocks
grow_fork-requires c =
    let f = c.args.f in
    let g = c.in_ok-named.named.facts in
    let count = length c.args.bytes.now in
    let m = grows_free f g c.args.offset count c.in_ok-needed.needed c.in_ok-needed.ensures in
    let is : c.taken_blocks-taken.result ≡ taken_blocks f g c.args.offset count
    = c.taken_blocks-taken.ensures ∙ ap (taken (clump f) (free_count f) (block_count (A f) g)) m.0 in record {
      fork_at = changed_fork_at c.requires c.in_ok-named.ensures;
      offset_le_logical = (c.in_ok-named.ensures.within, is, omega (arith, is, taken_are_free f g c.args.offset count (omega (arith, large_block c.requires)) m.1));
    }

pub returns-in_err-named : goal.returns-in_err-named
returns-in_err-named c =
    let image_bytes : Bytes c.args.image.now = octets _ c.slice_known-1.given in
    let fits : Fits (write c.args.name.now c.args.fork c.args.offset c.args.bytes.now c.args.changed) = write_fits c.args.name.now c.args.fork c.args.offset c.args.bytes.now c.args.changed
    (octets _ c.type_inv.name) (omega (arith, c.ranges.offset))
    (octets _ c.type_inv.bytes) (omega (arith, c.ranges.changed)) in
    let p = err_from_is_err_and c.from_residual.result c.from_residual.ensures.1 in
    rw (p.1, p.2) (refused c.requires image_bytes write_changing fits c.in_err-named.ensures)

pub returns : goal.returns
returns c =
    let image_bytes : Bytes c.args.image.now = octets _ c.slice_known-1.given in
    let fits : Fits (write c.args.name.now c.args.fork c.args.offset c.args.bytes.now c.args.changed) = write_fits c.args.name.now c.args.fork c.args.offset c.args.bytes.now c.args.changed
    (octets _ c.type_inv.name) (omega (arith, c.ranges.offset))
    (octets _ c.type_inv.bytes) (omega (arith, c.ranges.changed)) in
    write_served c.requires c.in_ok-named.ensures image_bytes fits (Ok _) c.in_ok-needed.ensures refl c.grow_fork.ensures
