-- `quick_locate` meets its contract. The loop's invariant: the search has passed `looked` blocks with `place` entries, none of the name.
-- Assumes nothing.
use Prim.Native.Nat.{◌+◌, ◌*◌}
use mathlib.Core.List.{◌∷◌}
use native.Mathlib.Omega.{arith}
use lib.ListN.{drop}
use Rattle.model.specs.Bytes.{part}
use Rattle.model.specs.Directory.{cut_blocks}
use Rattle.directory.proofs.QuickSteps.{one_block, few, blocks_from, from_next, Past, all_past, past_more}
use Rattle.directory.proofs.QuickSteps.{found_few, found_there, found_looked}
use Rattle.directory.proofs.quick.quick_locate.Goals.{In-loop-looked}
use Rattle.directory.proofs.quick.quick_locate.Goals as goal

-- the block at the loop's cursor is the next one
here : (c : In-loop-looked) → let a = c.args in
    Past a.name.now (cut_blocks (a.from.left + 1) (drop a.from.base a.image.now))
    (part (a.from.base + c.loop-looked.looked * 512) 512 a.image.now
    ∷ blocks_from a.image.now a.from.base (a.from.left + 1) (c.loop-looked.looked + 1)) c.loop-looked.looked c.loop-looked.place
here c = let a = c.args in rw (from_next a.image.now a.from.base (a.from.left + 1) c.loop-looked.looked (omega arith)) at c.loop-looked.invariant.past

pub overflow_add-result : goal.overflow_add-result
overflow_add-result c =
    let found = rw (one_block _ _) at c.in-Break.ensures in
    omega (arith, found_few (here (goal.at.overflow_add-result c).In-loop-looked) found)

pub returns-in-Break : goal.returns-in-Break
returns-in-Break c =
    let found = rw (one_block _ _) at c.in-Break.ensures in
    let w = here (goal.at.returns-in-Break c).In-loop-looked in
    (found_there w found, found_looked w found)

pub overflow_add-place : goal.overflow_add-place
overflow_add-place c =
    let passed = rw (one_block _ _) at c.in-Continue.ensures in
    omega (arith, passed, few (part (c.args.from.base + c.loop-looked.looked * 512) 512 c.args.image.now))

pub loop-looked-preserved : goal.loop-looked-preserved
loop-looked-preserved c =
    let passed = rw (one_block _ _) at c.in-Continue.ensures in
    record {
      few = omega (arith, passed, few (part (c.args.from.base + c.loop-looked.looked * 512) 512 c.args.image.now));
      past = rw passed.1 (past_more (here (goal.at.loop-looked-preserved c).In-loop-looked) passed.0);
    }

pub returns : goal.returns
returns c = all_past _ _ _ _ c.loop-looked.invariant.past (omega arith)
