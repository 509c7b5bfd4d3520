-- `same_byte` meets its contract. Assumes nothing.
use mathlib.Core.Path.{sym, ap, ◌∙◌}
use native.Mathlib.Omega.{arith}
use borrow.Author.Tests.{eq-eqb}
use Rattle.directory.specs.Folding.{fold}
use Rattle.directory.proofs.Folding.{fold_same}
use Rattle.directory.proofs.Same.{folds_compared}
use Rattle.directory.proofs.names.same_byte.Goals as goal

pub returns-then-x-y : goal.returns-then-x-y
returns-then-x-y c = eq-eqb _ _ c.if-x-y.true ∙ sym (fold_same _ _ (ap fold c.if-x-y.true))

pub returns-else-x-y : goal.returns-else-x-y
returns-else-x-y c = folds_compared _ _ _ _ (c.requires _ (omega arith)) (c.requires _ (omega arith))
