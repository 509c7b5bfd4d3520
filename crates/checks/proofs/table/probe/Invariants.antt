-- `probe` meets its contract. The loop's invariant: what stands from the entry's home slot up to slot i differs from it. Assumes nothing.
use Rattle.directory.specs.Cursor.{bytes_at}
use Rattle.checks.specs.Table.{Passed}
use Rattle.checks.proofs.table.probe.Given as goal

abbrev pub invariant-loop-i : goal.invariant-loop-i
invariant-loop-i l = Passed l.field l.image l.table (bytes_at l.image l.e) l.i
