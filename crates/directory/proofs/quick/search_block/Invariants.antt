-- `search_block` meets its contract. The loop's invariant: of the entries so read those before c have another name. Assumes nothing.
use Prim.Native.Nat.{◌+◌, ◌≤◌}
use mathlib.Core.List.{[]}
use Rattle.model.specs.Lists.{leading}
use Rattle.model.specs.Directory.{named}
use Rattle.model.specs.Check.{good_entry}
use Rattle.directory.specs.Cursor.{rest_of, CursorFits, ahead}
use Rattle.directory.proofs.Tests.{Onward}
use Rattle.directory.proofs.quick.search_block.Given as goal

abbrev pub invariant-loop-entry : goal.invariant-loop-entry
invariant-loop-entry l = record {
  fits : CursorFits l.image l.c;
  few : l.place + ahead l.c ≤ ahead l.initial.c;
  onward : Onward (named l.name) [] (leading good_entry (rest_of l.image l.initial.c)) (leading good_entry (rest_of l.image l.c)) l.place;
}

abbrev pub decreases-loop-entry : goal.decreases-loop-entry
decreases-loop-entry l = ahead l.c
