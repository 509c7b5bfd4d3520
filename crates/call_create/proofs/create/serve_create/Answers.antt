-- `serve_create` meets its contract. Assumes nothing.
use mathlib.Core.Path.{◌≡◌, sym, ◌∙◌}
use mathlib.Core.Bool.{false}
use native.Mathlib.Omega.{arith}
use lib.ListN.{length}
use Rattle.model.specs.Bytes.{Bytes}
use Rattle.model.specs.Facts.{is_locked}
use Rattle.model.specs.Directory.{padded}
use Rattle.model.specs.Calls.{Fits, bad_name}
use Rattle.model.specs.Calls.Call.{create}
use Rattle.call_create.specs.Adding.{Adds}
use Rattle.files.proofs.Octets.{octets}
use Rattle.files.proofs.Lookups.{first_passes}
use Rattle.call_create.proofs.Creates.{adds, Short, Fresh, fresh, fresh_title}
use Rattle.call_create.proofs.Creates.{create_locked, create_untitled, create_long, create_exists, create_last, create_full, create_served}
use Rattle.call_create.proofs.create.serve_create.Goals as goal

pub returns-then-is_locked : goal.returns-then-is_locked
unfolding Fits
returns-then-is_locked c =
    let image_octets : Bytes c.args.image.now = octets _ c.type_inv.image in
    let fits : Fits (create c.args.name.now c.args.finder.now c.args.created c.args.changed) = (
      octets _ c.shared_slice_known-1.given,
      c.whole.ensures.1,
      c.whole.ensures.0,
      omega (arith, c.ranges.created),
      omega (arith, c.ranges.changed),
    ) in
    create_locked c.requires image_octets fits (sym c.is_locked.ensures ∙ c.if-is_locked.true)

pub returns-then-bad_name : goal.returns-then-bad_name
unfolding Fits
returns-then-bad_name c =
    let image_octets : Bytes c.args.image.now = octets _ c.type_inv.image in
    let fits : Fits (create c.args.name.now c.args.finder.now c.args.created c.args.changed) = (
      octets _ c.type_inv.name,
      c.whole.ensures.1,
      c.whole.ensures.0,
      omega (arith, c.ranges.created),
      omega (arith, c.ranges.changed),
    ) in
    let unlocked : is_locked c.args.f ≡ false = sym c.is_locked.ensures ∙ c.if-is_locked.false in
    create_untitled c.requires image_octets fits unlocked (sym c.bad_name.ensures ∙ c.if-bad_name.true)

pub returns-then-too_long : goal.returns-then-too_long
unfolding Fits
returns-then-too_long c =
    let image_octets : Bytes c.args.image.now = octets _ c.type_inv.image in
    let fits : Fits (create c.args.name.now c.args.finder.now c.args.created c.args.changed) = (
      octets _ c.type_inv.name,
      c.whole.ensures.1,
      c.whole.ensures.0,
      omega (arith, c.ranges.created),
      omega (arith, c.ranges.changed),
    ) in
    let unlocked : is_locked c.args.f ≡ false = sym c.is_locked.ensures ∙ c.if-is_locked.false in
    let good : bad_name c.args.name.now ≡ false = sym c.bad_name.ensures ∙ c.if-bad_name.false in
    create_long c.requires image_octets fits unlocked good (sym c.too_long.ensures ∙ c.if-too_long.true)

pub returns-then-f-eq-LAST_NUMBER : goal.returns-then-f-eq-LAST_NUMBER
unfolding Fits
returns-then-f-eq-LAST_NUMBER c =
    let image_octets : Bytes c.args.image.now = octets _ c.slice_known-1.given in
    let fits : Fits (create c.args.name.now c.args.finder.now c.args.created c.args.changed) = (
      octets _ c.type_inv.name,
      c.whole.ensures.1,
      c.whole.ensures.0,
      omega (arith, c.ranges.created),
      omega (arith, c.ranges.changed),
    ) in
    let unlocked : is_locked c.args.f ≡ false = sym c.is_locked.ensures ∙ c.if-is_locked.false in
    let good : bad_name c.args.name.now ≡ false = sym c.bad_name.ensures ∙ c.if-bad_name.false in
    let short : Short c.args.name.now = record { good = good; short = sym c.too_long.ensures ∙ c.if-too_long.false } in
    let new : Fresh c.args.image.now c.args.name.now = fresh short c.lookup.result c.lookup.ensures (sym c.is_ok.ensures.value ∙ c.if-is_ok.false) in
    create_last c.requires image_octets fits unlocked new c.if-f-eq-LAST_NUMBER.true

pub entry_size-requires : goal.entry_size-requires
entry_size-requires c =
    let good : bad_name c.args.name.now ≡ false = sym c.bad_name.ensures ∙ c.if-bad_name.false in
    let short : Short c.args.name.now = record { good = good; short = sym c.too_long.ensures ∙ c.if-too_long.false } in
    let new : Fresh c.args.image.now c.args.name.now = fresh short c.lookup.result c.lookup.ensures (sym c.is_ok.ensures.value ∙ c.if-is_ok.false) in
    (fresh_title new).short

pub find_room-requires : goal.find_room-requires
unfolding padded
find_room-requires c =
    let good : bad_name c.args.name.now ≡ false = sym c.bad_name.ensures ∙ c.if-bad_name.false in
    let short : Short c.args.name.now = record { good = good; short = sym c.too_long.ensures ∙ c.if-too_long.false } in
    let new : Fresh c.args.image.now c.args.name.now = fresh short c.lookup.result c.lookup.ensures (sym c.is_ok.ensures.value ∙ c.if-is_ok.false) in
    record {
      passes = first_passes c.requires c.first_entry.ensures;
      at_value = c.first_entry.ensures.at;
      size_bound = omega (arith, c.entry_size.ensures, (fresh_title new).short);
    }

pub add_file-requires : goal.add_file-requires
add_file-requires c =
    let good : bad_name c.args.name.now ≡ false = sym c.bad_name.ensures ∙ c.if-bad_name.false in
    let short : Short c.args.name.now = record { good = good; short = sym c.too_long.ensures ∙ c.if-too_long.false } in
    let new : Fresh c.args.image.now c.args.name.now = fresh short c.lookup.result c.lookup.ensures (sym c.is_ok.ensures.value ∙ c.if-is_ok.false) in
    let adds_there : let a = c.args in
    Adds a.f a.image.now (length a.name.now) c.in-Some.room.base c.in-Some.room.end = let title = fresh_title new in
    adds c.args.f c.args.image.now c.first_entry.result c.first_entry.ensures (length c.args.name.now)
    c.entry_size.result c.entry_size.ensures _ _
    c.in-Some.ensures title.some title.short
    (omega (arith, c.struct_known-1.given, c.if-f-eq-LAST_NUMBER.false)) in
    record {
      readable = c.requires;
      adds = adds_there;
    }

pub returns-then-is_ok : goal.returns-then-is_ok
unfolding Fits
returns-then-is_ok c =
    let image_octets : Bytes c.args.image.now = octets _ c.slice_known-1.given in
    let fits : Fits (create c.args.name.now c.args.finder.now c.args.created c.args.changed) = (
      octets _ c.type_inv.name,
      c.whole.ensures.1,
      c.whole.ensures.0,
      omega (arith, c.ranges.created),
      omega (arith, c.ranges.changed),
    ) in
    let unlocked : is_locked c.args.f ≡ false = sym c.is_locked.ensures ∙ c.if-is_locked.false in
    let good : bad_name c.args.name.now ≡ false = sym c.bad_name.ensures ∙ c.if-bad_name.false in
    let short : Short c.args.name.now = record { good = good; short = sym c.too_long.ensures ∙ c.if-too_long.false } in
    create_exists c.requires image_octets fits unlocked short c.lookup.result c.lookup.ensures (sym c.is_ok.ensures.value ∙ c.if-is_ok.true)

pub returns-in-None : goal.returns-in-None
unfolding Fits
returns-in-None c =
    let image_octets : Bytes c.args.image.now = octets _ c.slice_known-1.given in
    let fits : Fits (create c.args.name.now c.args.finder.now c.args.created c.args.changed) = (
      octets _ c.type_inv.name,
      c.whole.ensures.1,
      c.whole.ensures.0,
      omega (arith, c.ranges.created),
      omega (arith, c.ranges.changed),
    ) in
    let unlocked : is_locked c.args.f ≡ false = sym c.is_locked.ensures ∙ c.if-is_locked.false in
    let good : bad_name c.args.name.now ≡ false = sym c.bad_name.ensures ∙ c.if-bad_name.false in
    let short : Short c.args.name.now = record { good = good; short = sym c.too_long.ensures ∙ c.if-too_long.false } in
    let new : Fresh c.args.image.now c.args.name.now = fresh short c.lookup.result c.lookup.ensures (sym c.is_ok.ensures.value ∙ c.if-is_ok.false) in
    create_full c.requires image_octets fits unlocked new c.if-f-eq-LAST_NUMBER.false
    c.first_entry.ensures c.entry_size.ensures
    c.in-None.ensures

pub returns-in-Some : goal.returns-in-Some
unfolding Fits
returns-in-Some c =
    let image_octets : Bytes c.args.image.now = octets _ c.slice_known-1.given in
    let fits : Fits (create c.args.name.now c.args.finder.now c.args.created c.args.changed) = (
      octets _ c.type_inv.name,
      c.whole.ensures.1,
      c.whole.ensures.0,
      omega (arith, c.ranges.created),
      omega (arith, c.ranges.changed),
    ) in
    let unlocked : is_locked c.args.f ≡ false = sym c.is_locked.ensures ∙ c.if-is_locked.false in
    let good : bad_name c.args.name.now ≡ false = sym c.bad_name.ensures ∙ c.if-bad_name.false in
    let short : Short c.args.name.now = record { good = good; short = sym c.too_long.ensures ∙ c.if-too_long.false } in
    let new : Fresh c.args.image.now c.args.name.now = fresh short c.lookup.result c.lookup.ensures (sym c.is_ok.ensures.value ∙ c.if-is_ok.false) in
    let adds_there : let a = c.args in
    Adds a.f a.image.now (length a.name.now) c.in-Some.room.base c.in-Some.room.end = let title = fresh_title new in
    adds c.args.f c.args.image.now c.first_entry.result c.first_entry.ensures (length c.args.name.now)
    c.entry_size.result c.entry_size.ensures _ _
    c.in-Some.ensures title.some title.short
    (omega (arith, c.struct_known-1.given, c.if-f-eq-LAST_NUMBER.false)) in
    create_served c.requires image_octets fits unlocked new c.if-f-eq-LAST_NUMBER.false
    adds_there c.add_file.ensures
