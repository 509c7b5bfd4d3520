-- `insert_entry` meets its contract. Assumes nothing.
use mathlib.Core.Path.{ap, ◌∙◌}
use mathlib.Core.List.{List, [], ◌∷◌, ◌++◌}
use Prim.Native.Nat.{ℕ}
use lib.Seq.{paste}
use Rattle.model.specs.Bytes.{part}
use Rattle.model.specs.Directory.{entries}
use Rattle.model.specs.Calls.{filled}
use Rattle.entries.proofs.Inserting.{new_parts}
use Rattle.entries.proofs.insert.insert_entry.Goals as goal

pub returns : goal.returns
returns c =
    let a = c.args in
    let image = a.image.now in
    c.insert_with_head.ensures
    ∙ ap (λ (e : List ℕ). paste image a.room.base (filled (entries (part a.room.base 512 image) ++ (e ∷ []))) 512)
    (new_parts a.number a.finder.now a.created a.name.now a.changed _ c.new_head-head.ensures)
