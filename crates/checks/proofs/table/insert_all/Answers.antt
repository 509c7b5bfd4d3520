-- `insert_all` meets its contract. The loop's invariant: the entries that the iterator has given differ from each other, and they are what
-- the table holds. Assumes nothing.
use Rattle.std.proofs.lemmas.Result.{err_from_is_err_and}
use mathlib.Core.Path.{◌∙◌}
use Rattle.checks.proofs.Kept.{hindered, kept_none, kept_same, kept_more, kept_met}
use Rattle.directory.proofs.Yielded.{begun}
use Rattle.checks.proofs.table.insert_all.Goals as goal

pub loop-e-init : goal.loop-e-init
loop-e-init c =
    let at = begun c.into_iter-e-iterator.ensures.into_iter_gives c.entries-e-items.ensures in
    record { same = at.0; kept = rw at.1 (kept_none c.requires.all_free) }

pub loop-e-preserved : goal.loop-e-preserved
loop-e-preserved c =
    let step = rw c.loop-e.invariant.same at c.in-Some.ensures.steps.1 in
    let kept = c.loop-e.invariant.kept in
    record {
      same = c.in-Some.ensures.steps.0 ∙ c.loop-e.invariant.same;
      kept = kept_more kept.long step.moves.stands c.in_ok-i.ensures (kept_same kept step.moves.rest);
    }

pub returns-in_err-i : goal.returns-in_err-i
returns-in_err-i c =
    let p = err_from_is_err_and c.from_residual.result c.from_residual.ensures.1 in
    let step = rw c.loop-e.invariant.same at c.in-Some.ensures.steps.1 in
    rw (p.1, p.2) (hindered _ _ _ _ _ _ c.in_err-i.ensures (kept_met (kept_same c.loop-e.invariant.kept step.moves.rest)))
