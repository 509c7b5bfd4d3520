-- `judge_facts` meets its contract: the first of checks 2 to 4 that fires. Assumes nothing.
use mathlib.Core.Path.{sym, ◌∙◌}
use Rattle.checks.proofs.Numbered.{number_2, number_3, number_4, number_past}
use Rattle.checks.proofs.limits.judge_facts.Goals as goal

pub returns-then-f-ne-SIGNATURE : goal.returns-then-f-ne-SIGNATURE
returns-then-f-ne-SIGNATURE c = number_2 _ _ c.if-f-ne-SIGNATURE.true

pub returns-then-bad_layout : goal.returns-then-bad_layout
returns-then-bad_layout c = number_3 _ _ c.if-f-ne-SIGNATURE.false (sym c.bad_layout.ensures ∙ c.if-bad_layout.true)

pub returns-then-f-gt-MOST_NAME : goal.returns-then-f-gt-MOST_NAME
returns-then-f-gt-MOST_NAME c = number_4 _ _ c.if-f-ne-SIGNATURE.false (sym c.bad_layout.ensures ∙ c.if-bad_layout.false) c.if-f-gt-MOST_NAME.true

pub returns : goal.returns
returns c = number_past _ _ c.if-f-ne-SIGNATURE.false (sym c.bad_layout.ensures ∙ c.if-bad_layout.false) c.if-f-gt-MOST_NAME.false
