-- `insert_all` meets its contract. The loop's invariant: the entries that the iterator has given differ from each other, and they are what
-- the table holds. Assumes nothing.
use mathlib.Core.Path.{◌≡◌}
use Rattle.directory.specs.Cursor.{rest_of}
use Rattle.checks.proofs.Kept.{Kept}
use Rattle.checks.proofs.table.insert_all.Given as goal

abbrev pub invariant-loop-e : goal.invariant-loop-e
invariant-loop-e l =
    let s = l.e-iterator in
    record { same : s.image.now ≡ l.image; kept : Kept l.field l.image (rest_of l.image l.fn.from) (rest_of l.image s.cursor) l.table }
