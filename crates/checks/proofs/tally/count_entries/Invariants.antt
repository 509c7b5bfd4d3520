-- `count_entries` meets its contract. The loop's invariant: check 6 fires for the entries from c on where it does for all, those with the
-- ones counted are all, and so it is with their file numbers. Assumes nothing.
use Prim.Native.Nat.{◌+◌, ◌≤◌}
use mathlib.Core.Path.{◌≡◌}
use mathlib.Core.Bool.{◌&&◌}
use lib.ListN.{length}
use Rattle.model.specs.Lists.{every}
use Rattle.model.specs.Check.{fires6, good_number}
use Rattle.directory.specs.Cursor.{rest_of, CursorFits, ahead}
use Rattle.checks.proofs.tally.count_entries.Given as goal

abbrev pub invariant-loop-e : goal.invariant-loop-e
invariant-loop-e l = record {
  fits : CursorFits l.image l.c;
  few : l.count + ahead l.c ≤ ahead l.initial.c;
  six : fires6 (rest_of l.image l.initial.c) ≡ fires6 (rest_of l.image l.c);
  counted : length (rest_of l.image l.initial.c) ≡ l.count + length (rest_of l.image l.c);
  tested : every (good_number l.next) (rest_of l.image l.initial.c) ≡ (l.numbered && every (good_number l.next) (rest_of l.image l.c));
}

abbrev pub decreases-loop-e : goal.decreases-loop-e
decreases-loop-e l = ahead l.c
