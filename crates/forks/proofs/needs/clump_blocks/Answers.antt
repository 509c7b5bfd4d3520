-- `clump_blocks` meets its contract. Assumes nothing.
use mathlib.Core.Path.{sym}
use Rattle.laws.proofs.Counts.{clump_below, clump_uneven, clump_counts}
use Rattle.forks.proofs.needs.clump_blocks.Goals as goal
use Rattle.forks.proofs.needs.clump_blocks.Goals.{then-f-via-then-f, then-f-via-else-f+then-f-ne0}

pub returns-then-f : goal.returns-then-f
returns-then-f c =
    elim c.then-f.branch [
      | then-f-via-then-f w ↦ sym (clump_below c.args.f w.if-f.true)
      | then-f-via-else-f+then-f-ne0 w ↦ sym (clump_uneven c.args.f w.if-f.false w.if-f-ne0.true)
    ]

pub returns : goal.returns
returns c = sym (clump_counts c.args.f c.if-f.false c.if-f-ne0.false)
