-- `renew` meets its contract. Assumes nothing.
use Rattle.std.proofs.Common.{ℕ, ap, ◌∙◌}
use lib.Seq.{sets}
use Rattle.model.specs.Bytes.{bytes32}
use Rattle.model.specs.Container.{checksum}
use Rattle.laws.proofs.Containers.{renewed_in}
use Rattle.container.proofs.renewing.renew.Goals as goal

pub returns : goal.returns
returns c =
    c.put32_at.ensures
    ∙ ap (λ (v : ℕ). sets c.args.file.now 72 (bytes32 v)) (c.checksum-sum.ensures ∙ ap checksum c.data.ensures)
    ∙ renewed_in c.args.file.now
