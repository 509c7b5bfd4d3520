-- `serve_rename` meets its contract. Assumes nothing.
use Rattle.std.proofs.lemmas.Result.{err_from_is_err_and}
use mathlib.Core.Path.{◌≡◌, sym, ◌∙◌}
use mathlib.Core.Bool.{false}
use native.Mathlib.Omega.{arith}
use Rattle.model.specs.Bytes.{Bytes}
use Rattle.model.specs.Facts.{is_locked}
use Rattle.model.specs.Calls.{Fits, bad_name}
use Rattle.model.specs.Calls.Call.{rename}
use Rattle.files.specs.Lookup.{FileAt}
use Rattle.files.proofs.Octets.{octets}
use Rattle.call_rename.proofs.Renames.{Passed, rename_fits, rename_locked, rename_untitled, rename_unnamed, rename_long}
use Rattle.call_rename.proofs.Renames.{rename_barred, rename_another, rename_told}
use Rattle.call_rename.proofs.rename.serve_rename.Goals as goal
use Rattle.call_rename.proofs.rename.serve_rename.Goals.{then-bad_name-via-then-bad_name, then-bad_name-via-else-bad_name+then-bad_name-2}

pub returns-then-is_locked : goal.returns-then-is_locked
returns-then-is_locked c =
    let image_octets : Bytes c.args.image.now = octets _ c.type_inv.image in
    let fits : Fits (rename c.args.name.now c.args.new.now c.args.changed) = rename_fits c.args.name.now c.args.new.now c.args.changed
    (octets _ c.type_inv.name) (octets _ c.type_inv.new) (omega (arith, c.ranges.changed)) in
    rename_locked c.requires image_octets fits (sym c.is_locked.ensures ∙ c.if-is_locked.true)

pub returns-then-bad_name : goal.returns-then-bad_name
returns-then-bad_name c =
    let image_octets : Bytes c.args.image.now = octets _ c.type_inv.image in
    let fits : Fits (rename c.args.name.now c.args.new.now c.args.changed) = rename_fits c.args.name.now c.args.new.now c.args.changed
    (octets _ c.type_inv.name) (octets _ c.type_inv.new) (omega (arith, c.ranges.changed)) in
    let unlocked : is_locked c.args.f ≡ false = sym c.is_locked.ensures ∙ c.if-is_locked.false in
    elim c.then-bad_name.branch [
      | then-bad_name-via-then-bad_name w ↦ rename_untitled c.requires image_octets fits unlocked (sym c.bad_name.ensures ∙ w.if-bad_name.true)
      | then-bad_name-via-else-bad_name+then-bad_name-2 w ↦
          rename_unnamed c.requires image_octets fits unlocked (sym c.bad_name.ensures ∙ w.if-bad_name.false)
          (sym w.bad_name-else-bad_name.ensures ∙ w.if-bad_name-2.true)
    ]

pub returns-then-too_long : goal.returns-then-too_long
returns-then-too_long c =
    let image_octets : Bytes c.args.image.now = octets _ c.type_inv.image in
    let fits : Fits (rename c.args.name.now c.args.new.now c.args.changed) = rename_fits c.args.name.now c.args.new.now c.args.changed
    (octets _ c.type_inv.name) (octets _ c.type_inv.new) (omega (arith, c.ranges.changed)) in
    let unlocked : is_locked c.args.f ≡ false = sym c.is_locked.ensures ∙ c.if-is_locked.false in
    let old : bad_name c.args.name.now ≡ false = sym c.bad_name.ensures ∙ c.if-bad_name.false in
    let good : bad_name c.args.new.now ≡ false = sym c.bad_name-else-bad_name.ensures ∙ c.if-bad_name-2.false in
    rename_long c.requires image_octets fits unlocked old good (sym c.too_long.ensures ∙ c.if-too_long.true)

pub returns-then-names_another : goal.returns-then-names_another
returns-then-names_another c =
    let image_octets : Bytes c.args.image.now = octets _ c.slice_known-1.given in
    let fits : Fits (rename c.args.name.now c.args.new.now c.args.changed) = rename_fits c.args.name.now c.args.new.now c.args.changed
    (octets _ c.type_inv.name) (octets _ c.type_inv.new) (omega (arith, c.ranges.changed)) in
    let unlocked : is_locked c.args.f ≡ false = sym c.is_locked.ensures ∙ c.if-is_locked.false in
    let old : bad_name c.args.name.now ≡ false = sym c.bad_name.ensures ∙ c.if-bad_name.false in
    let good : bad_name c.args.new.now ≡ false = sym c.bad_name-else-bad_name.ensures ∙ c.if-bad_name-2.false in
    let passed : let a = c.args in Passed a.f a.name.now a.new.now = record {
      unlocked = unlocked;
      old = old;
      good = good;
      short = sym c.too_long.ensures ∙ c.if-too_long.false;
    } in
    rename_another c.requires image_octets passed fits c.in_ok-named.ensures (sym c.if-names_another.true ∙ c.names_another.ensures _ _ c.in_ok-named.ensures.found)

pub returns-in_err-named : goal.returns-in_err-named
returns-in_err-named c =
    let image_octets : Bytes c.args.image.now = octets _ c.slice_known-1.given in
    let fits : Fits (rename c.args.name.now c.args.new.now c.args.changed) = rename_fits c.args.name.now c.args.new.now c.args.changed
    (octets _ c.type_inv.name) (octets _ c.type_inv.new) (omega (arith, c.ranges.changed)) in
    let unlocked : is_locked c.args.f ≡ false = sym c.is_locked.ensures ∙ c.if-is_locked.false in
    let old : bad_name c.args.name.now ≡ false = sym c.bad_name.ensures ∙ c.if-bad_name.false in
    let good : bad_name c.args.new.now ≡ false = sym c.bad_name-else-bad_name.ensures ∙ c.if-bad_name-2.false in
    let passed : let a = c.args in Passed a.f a.name.now a.new.now = record {
      unlocked = unlocked;
      old = old;
      good = good;
      short = sym c.too_long.ensures ∙ c.if-too_long.false;
    } in
    let p = err_from_is_err_and c.from_residual.result c.from_residual.ensures.1 in
    rw (p.1, p.2) (rename_barred c.requires image_octets passed fits c.in_err-named.ensures)

pub returns : goal.returns
returns c =
    let image_octets : Bytes c.args.image.now = octets _ c.slice_known-1.given in
    let fits : Fits (rename c.args.name.now c.args.new.now c.args.changed) = rename_fits c.args.name.now c.args.new.now c.args.changed
    (octets _ c.type_inv.name) (octets _ c.type_inv.new) (omega (arith, c.ranges.changed)) in
    let unlocked : is_locked c.args.f ≡ false = sym c.is_locked.ensures ∙ c.if-is_locked.false in
    let old : bad_name c.args.name.now ≡ false = sym c.bad_name.ensures ∙ c.if-bad_name.false in
    let good : bad_name c.args.new.now ≡ false = sym c.bad_name-else-bad_name.ensures ∙ c.if-bad_name-2.false in
    let passed : let a = c.args in Passed a.f a.name.now a.new.now = record {
      unlocked = unlocked;
      old = old;
      good = good;
      short = sym c.too_long.ensures ∙ c.if-too_long.false;
    } in
    let held : let a = c.args in FileAt a.f a.image.now c.in_ok-named.named.entry = record { readable = c.requires; name = c.args.name.now; place = _; found = c.in_ok-named.ensures.found } in
    rename_told c.requires image_octets passed fits c.in_ok-named.ensures (sym c.if-names_another.false ∙ c.names_another.ensures _ _ c.in_ok-named.ensures.found)
    (c.rename_file.ensures held)
