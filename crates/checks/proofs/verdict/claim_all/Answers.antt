-- `claim_all` meets its contract. The loop's invariant: to claim all forks is to claim those of the entries that the iterator has left, from
-- the marks as they are. Assumes nothing.
use mathlib.Core.Path.{◌∙◌}
use Rattle.checks.proofs.Claims.{onward_same, onward_end, onward_claim, onward_not, forks_more, forks_none}
use Rattle.checks.proofs.verdict.claim_all.Goals as goal

pub returns-then-not-claim_fork : goal.returns-then-not-claim_fork
returns-then-not-claim_fork c =
    let step = rw c.loop-e.invariant.same at c.in-Some.ensures.steps.1 in
    let first = onward_same c.loop-e.invariant.onward (forks_more step.moves.rest) in
    onward_not first c.read_fork-data.ensures c.claim_fork.ensures.answer c.if-not-claim_fork.true

pub returns-then-not-claim_fork-2 : goal.returns-then-not-claim_fork-2
returns-then-not-claim_fork-2 c =
    let step = rw c.loop-e.invariant.same at c.in-Some.ensures.steps.1 in
    let first = onward_same c.loop-e.invariant.onward (forks_more step.moves.rest) in
    let second = onward_claim first c.read_fork-data.ensures c.claim_fork.ensures.answer c.if-not-claim_fork.false c.claim_fork.ensures.after in
    onward_not second c.read_fork-resource.ensures c.claim_fork-in-loop-e.ensures.answer c.if-not-claim_fork-2.true

pub loop-e-preserved : goal.loop-e-preserved
loop-e-preserved c =
    let step = rw c.loop-e.invariant.same at c.in-Some.ensures.steps.1 in
    let first = onward_same c.loop-e.invariant.onward (forks_more step.moves.rest) in
    let second = onward_claim first c.read_fork-data.ensures c.claim_fork.ensures.answer c.if-not-claim_fork.false c.claim_fork.ensures.after in
    record {
      same = c.in-Some.ensures.steps.0 ∙ c.loop-e.invariant.same;
      onward = onward_claim second c.read_fork-resource.ensures c.claim_fork-in-loop-e.ensures.answer
          c.if-not-claim_fork-2.false c.claim_fork-in-loop-e.ensures.after;
    }

pub returns : goal.returns
returns c = onward_end (onward_same c.loop-e.invariant.onward (forks_none (rw c.loop-e.invariant.same at c.in-None.ensures.steps)))
