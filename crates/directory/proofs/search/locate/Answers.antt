-- `locate` meets its contract. The loop's invariant: of all entries those before the iterator's have another name, and the directory's
-- reading comes to the iterator's cursor. Assumes nothing.
use mathlib.Core.Path.{sym, ◌∙◌}
use Rattle.directory.proofs.Tests.{onward_more, onward_found, onward_end}
use Rattle.directory.proofs.search.locate.Goals as goal

pub returns-then-has_name : goal.returns-then-has_name
returns-then-has_name c =
    let l = c.loop-place.invariant in
    let m = (rw l.image at c.in-Some.ensures.steps.0.1).moves in
    let f = onward_found l.onward m.rest (sym c.has_name.ensures ∙ c.if-has_name.true) in
    record {
      finds = record {
        exists = f.0;
        there = c.in-Some.ensures.steps.1 ∙ f.1;
        bytes = f.2;
        stands = m.stands;
      };
      located = λ base blocks h. m.lies base blocks (l.comes base blocks h);
    }

pub loop-place-preserved : goal.loop-place-preserved
loop-place-preserved c =
    let l = c.loop-place.invariant in
    let m = (rw l.image at c.in-Some.ensures.steps.0.1).moves in
    record {
      can = c.in-Some.ensures.goes.keeps;
      image = c.in-Some.ensures.steps.0.0 ∙ l.image;
      onward = rw (c.in-Some.ensures.steps.2) (onward_more l.onward m.rest (sym c.has_name.ensures ∙ c.if-has_name.false));
      comes = λ base blocks h. m.comes base blocks (l.comes base blocks h);
    }

pub returns : goal.returns
returns c =
    let l = c.loop-place.invariant in
    record { finds = (onward_end l.onward (rw l.image at c.in-None.ensures.steps.0)).0; located = tt }
