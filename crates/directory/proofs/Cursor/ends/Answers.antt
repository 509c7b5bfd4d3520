-- `Cursor::ends` meets its contract. Assumes nothing.
use mathlib.Core.Path.{sym, ◌∙◌}
use borrow.Author.Tests.{le-leb}
use Rattle.directory.proofs.Steps.{ends_block, ends_here}
use Rattle.directory.proofs.Cursor.ends.Goals as goal

pub returns-then-self-ge-BLOCK : goal.returns-then-self-ge-BLOCK
returns-then-self-ge-BLOCK c = le-leb _ _ c.if-self-ge-BLOCK.true ∙ sym (ends_block c.args.image.now c.args.self c.requires c.if-self-ge-BLOCK.true)

pub returns-else-self-ge-BLOCK : goal.returns-else-self-ge-BLOCK
returns-else-self-ge-BLOCK c = ends_here c.args.image.now c.args.self c.requires c.if-self-ge-BLOCK.false
