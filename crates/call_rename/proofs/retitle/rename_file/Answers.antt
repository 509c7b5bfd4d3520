-- `rename_file` meets its contract. Assumes nothing.
use Prim.Native.Nat.{ℕ, ◌≤◌}
use mathlib.Core.Path.{◌≡◌, sym, ◌∙◌}
use native.Mathlib.Omega.{arith}
use lib.ListN.{length}
use Rattle.model.specs.Directory.{padded, size_for}
use Rattle.laws.proofs.Refusals.{GoodName, good_name}
use Rattle.laws.proofs.DirectorySteps.{based_self}
use Rattle.files.proofs.Lookups.{first_passes}
use Rattle.files.proofs.Elsewhere.{held_block, held_lies}
use Rattle.call_rename.proofs.Leaving.{entry_inside, lies_from, out, taken_out, stays, stuck, kept_block, kept_behind, moves}
use Rattle.call_rename.proofs.retitle.rename_file.Goals as goal

small : (n size : ℕ) → size ≡ size_for n → n ≤ 255 → size ≤ 512
unfolding padded
small n size q h = omega arith

-- ---- the needs
pub entry_size-size-requires : goal.entry_size-size-requires
entry_size-size-requires c =
    let title : GoodName c.args.new.now = good_name c.args.new.now c.requires.value in
    (title).short

pub rename_entry-requires : goal.rename_entry-requires
rename_entry-requires c =
    let title : GoodName c.args.new.now = good_name c.args.new.now c.requires.value in
    let same : let a = c.args in size_for (length a.new.now) ≡ size_for a.e.name_length = sym c.entry_size-size.ensures ∙ c.if-size-entry_size.true ∙ c.entry_size.ensures in
    record {
      stands = c.requires.file_at.found.there.stands;
      name_value = (same, (title).short);
      name_length_in_bounds = entry_inside c.requires.file_at;
    }

pub returns-then-size-entry_size : goal.returns-then-size-entry_size
returns-then-size-entry_size c h =
    let same : let a = c.args in size_for (length a.new.now) ≡ size_for a.e.name_length = sym c.entry_size-size.ensures ∙ c.if-size-entry_size.true ∙ c.entry_size.ensures in
    stays h c.args.new.now c.requires.value c.args.changed same _ c.rename_entry.ensures

pub find_room_without-requires : goal.find_room_without-requires
find_room_without-requires c =
    let title : GoodName c.args.new.now = good_name c.args.new.now c.requires.value in
    let h = c.requires.file_at in
    let b = c.first_entry.ensures in
    record {
      passes = first_passes h.readable b;
      at_value = b.at;
      size_bound = small _ _ c.entry_size-size.ensures (title).short;
      stands = h.found.there.stands;
      lies = lies_from h b;
    }

pub remove_entry-requires : goal.remove_entry-requires
remove_entry-requires c =
    let h = c.requires.file_at in
    let b = based_self c.args.image.now in
    record {
      block = held_block h _ b;
      stands = h.found.there.stands;
      lies = held_lies h _ b;
    }

pub insert_with_head-requires : goal.insert_with_head-requires
insert_with_head-requires c =
    let differ : let a = c.args in size_for (length a.new.now) ≡ size_for a.e.name_length → ⊥ = λ p. c.if-size-entry_size.false (c.entry_size-size.ensures ∙ p ∙ sym c.entry_size.ensures) in
    let without : c.remove_entry.new.image ≡ out c.requires.file_at = taken_out c.requires.file_at _ c.remove_entry.ensures in
    let q = c.entry_size-size.ensures in
    let w = without in record {
      block = kept_block c.requires.file_at c.args.new.now c.requires.value c.args.changed differ c.first_entry.ensures _ q _ c.in-Some.ensures _ w;
      end_value = kept_behind c.requires.file_at c.args.new.now c.requires.value c.args.changed differ c.first_entry.ensures _ q _ c.in-Some.ensures _ w;
    }

pub returns-in-None : goal.returns-in-None
returns-in-None c h =
    let differ : let a = c.args in size_for (length a.new.now) ≡ size_for a.e.name_length → ⊥ = λ p. c.if-size-entry_size.false (c.entry_size-size.ensures ∙ p ∙ sym c.entry_size.ensures) in
    stuck h c.args.new.now c.requires.value c.args.changed differ c.first_entry.ensures _ c.entry_size-size.ensures c.in-None.ensures

pub returns-in-Some : goal.returns-in-Some
returns-in-Some c h =
    let differ : let a = c.args in size_for (length a.new.now) ≡ size_for a.e.name_length → ⊥ = λ p. c.if-size-entry_size.false (c.entry_size-size.ensures ∙ p ∙ sym c.entry_size.ensures) in
    moves h c.args.new.now c.requires.value c.args.changed differ c.first_entry.ensures _ c.entry_size-size.ensures _ c.in-Some.ensures _ _ _ (taken_out h _ c.remove_entry.ensures) c.kept_head-head.ensures
    c.insert_with_head.ensures
