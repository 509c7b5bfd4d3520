-- `clashes_behind` meets its contract. The loop's invariant: the entry clashes with one where it does with one that the iterator has left.
-- Assumes nothing.
use mathlib.Core.Path.{sym, ap, ◌∙◌}
use Rattle.model.specs.Lists.{any}
use Rattle.directory.proofs.Tests.{any_pass, any_fail}
use Rattle.checks.proofs.pairs.clashes_behind.Goals as goal

pub returns-then-clashes : goal.returns-then-clashes
returns-then-clashes c =
    let l = c.loop-d.invariant in
    let step = rw l.same at c.in-Some.ensures.steps.1 in
    sym (l.exists ∙ any_pass step.moves.rest _ (sym c.clashes.ensures ∙ c.if-clashes.true))

pub loop-d-preserved : goal.loop-d-preserved
loop-d-preserved c =
    let l = c.loop-d.invariant in
    let step = rw l.same at c.in-Some.ensures.steps.1 in
    record {
      same = c.in-Some.ensures.steps.0 ∙ l.same;
      exists = l.exists ∙ any_fail step.moves.rest _ (sym c.clashes.ensures ∙ c.if-clashes.false);
    }

pub returns : goal.returns
unfolding any
returns c =
    let l = c.loop-d.invariant in
    sym (l.exists ∙ ap (any _) (rw l.same at c.in-None.ensures.steps))
