-- `pairs_differ` meets its contract. The loop's invariant: all differ where those from c on do, since no entry before them clashes
-- with one behind it. Assumes nothing.
use mathlib.Core.Path.{◌≡◌}
use Rattle.directory.specs.Cursor.{rest_of, Passes, ahead}
use Rattle.checks.proofs.Clashes.{all_differ}
use Rattle.checks.proofs.pairs.pairs_differ.Given as goal

abbrev pub invariant-loop-e : goal.invariant-loop-e
invariant-loop-e l = Passes l.image l.c × (all_differ (rest_of l.image l.initial.c) ≡ all_differ (rest_of l.image l.c))

abbrev pub decreases-loop-e : goal.decreases-loop-e
decreases-loop-e l = ahead l.c
