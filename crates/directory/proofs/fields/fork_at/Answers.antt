-- `fork_at` meets its contract. Assumes nothing.
use mathlib.Core.Path.{◌≡◌, sym, ap, ◌∙◌}
use native.Mathlib.Nat.{add-zero}
use lib.ListN.{drop}
use Rattle.model.specs.Bytes.{be16}
use Rattle.laws.proofs.Stores.{be16_drop, be32_drop}
use Rattle.directory.proofs.Parts.{fork_are}
use Rattle.directory.proofs.fields.fork_at.Goals as goal

pub returns : goal.returns
returns c =
    let a = c.args in
    let first : be16 a.image.now a.at ≡ be16 (drop a.at a.image.now) 0 =
    sym (be16_drop a.at a.image.now 0 ∙ ap (be16 a.image.now) (add-zero a.at)) in
    fork_are (drop a.at a.image.now) _
    (c.be16_at.ensures ∙ first)
    (c.be32_at.ensures ∙ sym (be32_drop a.at a.image.now 2))
    (c.be32_at-2.ensures ∙ sym (be32_drop a.at a.image.now 6))
