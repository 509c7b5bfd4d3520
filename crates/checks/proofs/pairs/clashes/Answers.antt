-- `clashes` meets its contract. Assumes nothing.
use mathlib.Core.Path.{sym, ◌∙◌}
use Rattle.checks.proofs.Clashes.{clash_number, clash_name}
use Rattle.checks.proofs.pairs.clashes.Goals as goal

pub returns-then-same : goal.returns-then-same
returns-then-same c = c.if-same.true ∙ sym (clash_number _ _ (sym c.same.ensures ∙ c.if-same.true))

pub returns-else-same : goal.returns-else-same
returns-else-same c = c.same-else-same.ensures ∙ sym (clash_name _ _ (sym c.same.ensures ∙ c.if-same.false))
