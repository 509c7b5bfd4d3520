-- `pairs_differ` meets its contract. The loop's invariant: all differ where those from c on do, since no entry before them clashes
-- with one behind it. Assumes nothing.
use mathlib.Core.Path.{sym, ap, ◌∙◌}
use Rattle.model.specs.Lists.{distinct}
use Rattle.checks.proofs.Clashes.{all_differ, differ_not, differ_more}
use Rattle.checks.proofs.pairs.pairs_differ.Goals as goal

pub returns-then-clashes_behind : goal.returns-then-clashes_behind
unfolding all_differ
returns-then-clashes_behind c =
    let step = c.in-Some.ensures in
    sym (c.loop-e.invariant.1 ∙ differ_not step.moves.rest (sym c.clashes_behind.ensures ∙ c.if-clashes_behind.true))

pub loop-e-preserved : goal.loop-e-preserved
loop-e-preserved c =
    let step = c.in-Some.ensures in
    (step.passes, c.loop-e.invariant.1 ∙ differ_more step.moves.rest (sym c.clashes_behind.ensures ∙ c.if-clashes_behind.false))

pub returns : goal.returns
unfolding all_differ distinct
returns c = sym (c.loop-e.invariant.1 ∙ ap all_differ c.in_default.ensures)
