-- `tag_sum` meets its contract. Assumes nothing.
use Rattle.std.proofs.Common.{ℕ, ◌<◌, ◌⊎◌, inl, inr, ap, ◌∙◌, arith}
use Rattle.model.specs.Container.{checksum}
use Rattle.model.proofs.Container.{few_tags, all_tags}
use Rattle.container.proofs.header.tag_sum.Goals as goal

few : (n m : ℕ) → (n < m) ⊎ (n < n) → n < m
few n m (inl h) = h
few n m (inr h) = absurd (omega arith)

pub returns-in-None : goal.returns-in-None
returns-in-None c = few_tags _ _ c.tags.ensures (few _ _ c.in-None.ensures.lookup.0)

pub returns-in-Some : goal.returns-in-Some
returns-in-Some c = c.checksum.ensures ∙ ap checksum c.in-Some.ensures.lookup.0.2 ∙ all_tags _ _ c.tags.ensures
