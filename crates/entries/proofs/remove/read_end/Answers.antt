-- `read_end` meets its contract. The loop's invariant: the block's reading comes to c. Assumes nothing.
use Rattle.entries.proofs.Blocks.{block_passes, block_comes, block_ends}
use Rattle.entries.proofs.remove.read_end.Goals as goal

pub loop-behind-init : goal.loop-behind-init
loop-behind-init c = (block_passes c.args.image.now c.args.base c.requires, block_comes c.args.image.now c.args.base c.requires)

pub loop-behind-smaller : goal.loop-behind-smaller
loop-behind-smaller c =
    let step = c.in-Some.ensures in
    step.moves.less

pub loop-behind-preserved : goal.loop-behind-preserved
loop-behind-preserved c =
    let step = c.in-Some.ensures in
    (step.passes, step.moves.comes _ 1 c.loop-behind.invariant.1)

pub returns : goal.returns
returns c =
    let l = c.loop-behind in
    (block_ends _ _ l.c l.invariant.1 c.in_default.ensures, l.invariant.0.fits.place)
