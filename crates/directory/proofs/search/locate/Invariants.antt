-- `locate` meets its contract. The loop's invariant: of all entries those before the iterator's have another name, and the directory's
-- reading comes to the iterator's cursor. Assumes nothing.
use Prim.Native.Nat.{ℕ}
use mathlib.Core.Path.{◌≡◌}
use mathlib.Core.List.{[]}
use Rattle.std.specs.Iterator.Adapters.{enumerate_source, enumerate_count}
use Rattle.model.specs.Directory.{named}
use Rattle.directory.specs.Cursor.{rest_of, Comes}
use Rattle.directory.proofs.Tests.{Onward}
use Rattle.directory.proofs.search.locate.Given as goal

abbrev pub invariant-loop-place : goal.invariant-loop-place
invariant-loop-place l =
    let s = enumerate_source l.place-iterator in
    record {
      can : goal.iterator-loop-place.can_next l.place-iterator;
      image : s.image.now ≡ l.image;
      onward : Onward (named l.name) [] (rest_of l.image l.fn.from) (rest_of l.image s.cursor) (enumerate_count l.place-iterator);
      comes : (base blocks : ℕ) → Comes l.image base blocks l.fn.from → Comes l.image base blocks s.cursor;
    }
