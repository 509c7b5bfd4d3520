-- `first_room` meets its contract. Assumes nothing.
use Rattle.std.proofs.Common.{arith}
use Rattle.entries.proofs.Searching.{full_more}
use Rattle.entries.proofs.search.first_room.Goals as goal
use Rattle.entries.proofs.search.first_room.Goals.{else-loop-i-test, then-loop-i-test+else-end-size+else-i-i-end}

pub loop-i-preserved : goal.loop-i-preserved
loop-i-preserved g c =
    full_more (goal.F-post g c.args.end_of) _ _ _ _ c.loop-i.invariant c.end_of-end.ensures c.if-end-size.false

pub returns : goal.returns
returns g c =
    record {
      is = λ i h.
          elim c.loop-i-test.branch [
            | else-loop-i-test w ↦ absurd (omega arith)
            | then-loop-i-test+else-end-size+else-i-i-end w ↦
                full_more (goal.F-post g c.args.end_of) _ _ _ _ c.loop-i.invariant w.end_of-end.ensures w.if-end-size.false i (omega arith)
          ];
    }
