-- `judge_directory` meets its contract: the first of checks 6 and 7 that fires. Assumes nothing.
use Rattle.std.proofs.lemmas.Result.{err_from_is_err_and}
use mathlib.Core.Path.{sym, ◌∙◌}
use native.Mathlib.Omega.{arith}
use borrow.Author.Tests.{not-true, not-false}
use Rattle.checks.proofs.Numbers.{number_6, number_count, number_number, number_clash, number_clear}
use Rattle.checks.proofs.verdict.judge_directory.Goals as goal

pub returns-in_err-t : goal.returns-in_err-t
returns-in_err-t c =
    let p = err_from_is_err_and c.from_residual.result c.from_residual.ensures.1 in
    rw (p.1, p.2) (number_6 _ _ _ c.in_err-t.ensures)

pub returns-then-t-files : goal.returns-then-t-files
returns-then-t-files c =
    let six = c.in_ok-t.ensures.six in
    let counted = c.in_ok-t.ensures.counted in
    number_count _ _ _ six (λ q. omega (arith, counted))

pub returns-then-not-t : goal.returns-then-not-t
returns-then-not-t c =
    let six = c.in_ok-t.ensures.six in
    let tested = sym c.in_ok-t.ensures.tested in
    number_number _ _ _ six (tested ∙ not-true _ c.if-not-t.true)

pub returns-then-not-all_differ : goal.returns-then-not-all_differ
returns-then-not-all_differ c =
    let six = c.in_ok-t.ensures.six in
    number_clash _ _ _ six (sym c.all_differ.ensures ∙ c.if-not-all_differ.true)

pub returns : goal.returns
returns c =
    let six = c.in_ok-t.ensures.six in
    let counted = c.in_ok-t.ensures.counted in
    let tested = sym c.in_ok-t.ensures.tested in
    number_clear _ _ _ six
    (omega (arith, counted))
    (tested ∙ not-false _ c.if-not-t.false)
    (sym c.all_differ.ensures ∙ c.if-not-all_differ.false)
