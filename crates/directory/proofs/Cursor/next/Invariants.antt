-- `Cursor::next` meets its contract. The loop's invariant: the entries from c on are those from the given cursor on. The measure
-- is the number of blocks left. Assumes nothing.
use Prim.Native.Nat.{ℕ, ◌≤◌}
use mathlib.Core.Path.{◌≡◌}
use Rattle.directory.specs.Cursor.{rest_of, CursorFits, Comes, ahead}
use Rattle.directory.proofs.Cursor.next.Given as goal

abbrev pub invariant-loop-c : goal.invariant-loop-c
invariant-loop-c l =
    CursorFits l.image l.c × (rest_of l.image l.initial.c ≡ rest_of l.image l.c) × (ahead l.c ≤ ahead l.initial.c)
    × ((base blocks : ℕ) → Comes l.image base blocks l.initial.c → Comes l.image base blocks l.c)

abbrev pub decreases-loop-c : goal.decreases-loop-c
decreases-loop-c l = l.c.left
