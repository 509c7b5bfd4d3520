-- `search_block` meets its contract. The loop's invariant: of the entries so read those before c have another name. Assumes nothing.
use mathlib.Core.Path.{sym, ◌∙◌}
use native.Mathlib.Omega.{arith}
use Rattle.model.specs.Check.{good_entry}
use Rattle.laws.proofs.Quick.{leading_more}
use Rattle.directory.specs.Cursor.{Moves}
use Rattle.directory.proofs.Tests.{onward_more, onward_found, onward_end}
use Rattle.directory.proofs.QuickSteps.{moved, ended}
use Rattle.directory.proofs.quick.search_block.Goals.{In-Some}
use Rattle.directory.proofs.quick.search_block.Goals as goal

step : (c : In-Some) → Moves c.args.image.now c.loop-entry.c c.in-Some.entry c.in-Some.behind
step c = moved _ c.next.ensures (sym c.unwrap_or.ensures ∙ c.in-Some.is)

pub returns-then-has_name : goal.returns-then-has_name
returns-then-has_name c =
    let m = step (goal.at.returns-then-has_name c).In-Some in
    let f = onward_found c.loop-entry.invariant.onward (leading_more good_entry m.rest m.good) (sym c.has_name.ensures ∙ c.if-has_name.true) in
    record {
      exists = f.0;
      there = f.1;
      bytes = f.2;
      stands = m.stands;
    }

pub loop-entry-preserved : goal.loop-entry-preserved
loop-entry-preserved c =
    let m = step (goal.at.loop-entry-preserved c).In-Some in
    record {
      fits = m.fits;
      few = omega (arith, m.less);
      onward = onward_more c.loop-entry.invariant.onward (leading_more good_entry m.rest m.good) (sym c.has_name.ensures ∙ c.if-has_name.false);
    }

pub returns : goal.returns
returns c = onward_end c.loop-entry.invariant.onward (ended _ _ _ c.next.ensures (sym c.unwrap_or.ensures ∙ c.in_default.is))
