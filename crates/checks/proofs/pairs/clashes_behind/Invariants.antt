-- `clashes_behind` meets its contract. The loop's invariant: the entry clashes with one where it does with one that the iterator has left.
-- Assumes nothing.
use mathlib.Core.Path.{◌≡◌}
use Rattle.model.specs.Lists.{any}
use Rattle.directory.specs.Cursor.{rest_of, bytes_at}
use Rattle.checks.specs.Same.{clash}
use Rattle.checks.proofs.pairs.clashes_behind.Given as goal

abbrev pub invariant-loop-d : goal.invariant-loop-d
invariant-loop-d l =
    let s = l.d-iterator in
    record {
      same : s.image.now ≡ l.image;
      exists : any (clash (bytes_at l.image l.e)) (rest_of l.image l.fn.from) ≡ any (clash (bytes_at l.image l.e)) (rest_of l.image s.cursor);
    }
