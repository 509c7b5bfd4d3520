-- `read_fork` meets its contract. Assumes nothing.
use Prim.Native.Nat.{ℕ, ◌+◌}
use mathlib.Core.Path.{sym, ap, ◌∙◌}
use lib.ListN.{drop}
use Rattle.model.specs.Directory.{fork_in}
use Rattle.directory.proofs.Parts.{fork_field}
use Rattle.directory.proofs.fields.read_fork.Goals as goal

pub returns : goal.returns
returns c =
    let a = c.args in
    c.fork_at.ensures ∙ ap (λ (n : ℕ). fork_in (drop (a.e.start + n) a.image.now)) c.fork_place.ensures.0
    ∙ sym (fork_field a.image.now a.e c.requires a.fork)
