-- `bad_length` meets its contract: its tests are those of check 1, in their order. Assumes nothing.
use Prim.Native.Nat.{◌/◌, ◌%◌}
use borrow.Author.Tests.{eq-eqb, ne_eqb, lt-ltb, le-ltb}
use Rattle.model.specs.Check.{fires1}
use Rattle.checks.proofs.limits.bad_length.Goals as goal

pub returns-then-size-ne0 : goal.returns-then-size-ne0
unfolding fires1
returns-then-size-ne0 c = rw (ne_eqb (c.args.size % 512) 0 c.if-size-ne0.true)

pub returns-then-blocks-lt-LEAST_BLOCKS : goal.returns-then-blocks-lt-LEAST_BLOCKS
unfolding fires1
returns-then-blocks-lt-LEAST_BLOCKS c = let size = c.args.size in rw (eq-eqb (size % 512) 0 c.if-size-ne0.false, lt-ltb (size / 512) 8 c.if-blocks-lt-LEAST_BLOCKS.true)

pub returns : goal.returns
unfolding fires1
returns c = let size = c.args.size in rw (eq-eqb (size % 512) 0 c.if-size-ne0.false, le-ltb (size / 512) 8 c.if-blocks-lt-LEAST_BLOCKS.false)
