-- `changeable` meets its contract. Assumes nothing.
use mathlib.Core.Path.{◌≡◌, sym, ◌∙◌}
use mathlib.Core.Bool.{false}
use Rattle.model.specs.Facts.{is_locked}
use Rattle.files.proofs.Refusing.{barred_15}
use Rattle.files.proofs.searching.changeable.Goals as goal

pub returns-then-file_locked : goal.returns-then-file_locked
returns-then-file_locked c =
    let unlocked : is_locked c.args.f ≡ false = sym c.is_locked.ensures ∙ c.if-is_locked.false in
    barred_15 c.requires _ unlocked _ _ c.in_ok-named.ensures (sym c.file_locked.ensures ∙ c.if-file_locked.true)
