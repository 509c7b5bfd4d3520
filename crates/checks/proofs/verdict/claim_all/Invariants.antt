-- `claim_all` meets its contract. The loop's invariant: to claim all forks is to claim those of the entries that the iterator has left, from
-- the marks as they are. Assumes nothing.
use mathlib.Core.Path.{◌≡◌}
use Rattle.model.specs.Directory.{forks_in}
use Rattle.blockmap.specs.Decoded.{decoded_entry}
use Rattle.directory.specs.Cursor.{rest_of}
use Rattle.checks.proofs.Claims.{Onward}
use Rattle.checks.proofs.verdict.claim_all.Given as goal

abbrev pub invariant-loop-e : goal.invariant-loop-e
invariant-loop-e l =
    let s = l.e-iterator in
    record {
      same : s.image.now ≡ l.image;
      onward : Onward (decoded_entry l.entries) l.n l.a l.initial.marks (forks_in (rest_of l.image l.fn.from)) l.marks (forks_in (rest_of l.image s.cursor));
    }
