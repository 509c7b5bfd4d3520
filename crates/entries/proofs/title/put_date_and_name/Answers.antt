-- `put_date_and_name` meets its contract: three stores, one right behind the other. Assumes nothing.
use mathlib.Core.Path.{refl}
use Rattle.entries.proofs.Titles.{title_stores}
use Rattle.entries.proofs.title.put_date_and_name.Goals as goal

pub returns : goal.returns
returns c =
    let a = c.args in
    title_stores a.name.now a.changed a.image.now a.at c.requires.0 _ _ _ c.put32_at.ensures refl c.put_bytes.ensures
