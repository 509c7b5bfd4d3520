-- `lookup` meets its contract. Assumes nothing.
use mathlib.Core.Path.{◌≡◌, sym, ◌∙◌}
use mathlib.Core.Bool.{false}
use Rattle.model.specs.Calls.{bad_name}
use Rattle.files.proofs.Lookups.{first_passes, names_or}
use Rattle.files.proofs.searching.lookup.Goals as goal

pub locate-requires : goal.locate-requires
locate-requires c = first_passes c.requires c.first_entry.ensures

pub returns : goal.returns
returns c =
    let good : bad_name c.args.name.now ≡ false = sym c.bad_name.ensures ∙ c.if-bad_name.false in
    names_or c.requires c.first_entry.ensures _ good _ c.locate.ensures.finds c.locate.ensures.located _ c.ok_or.ensures.value
