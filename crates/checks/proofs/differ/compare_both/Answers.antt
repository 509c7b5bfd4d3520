-- `compare_both` meets its contract. Assumes nothing.
use Rattle.std.proofs.lemmas.Result.{err_from_is_err_and}
use Rattle.checks.proofs.Kept.{both_hindered, both_compared}
use Rattle.checks.proofs.differ.compare_both.Goals as goal

pub returns-in_err-compare_by : goal.returns-in_err-compare_by
returns-in_err-compare_by c =
    let p = err_from_is_err_and c.from_residual.result c.from_residual.ensures.1 in
    rw (p.1, p.2) (both_hindered _ _ c.in_err-compare_by.ensures)

pub returns : goal.returns
returns c = both_compared _ _ c.in_ok-compare_by.ensures c.compare_by-2.ensures
