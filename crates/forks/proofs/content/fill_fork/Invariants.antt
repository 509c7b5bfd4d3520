-- `fill_fork` meets its contract. The invariant: the bytes that are left are due from the block behind `block` on. Assumes nothing.
use mathlib.Core.Path.{◌≡◌}
use lib.ListN.{length}
use Rattle.model.specs.Map.{map_entry, chain_blocks}
use Rattle.model.specs.Calls.{put_content}
use Rattle.forks.proofs.Filling.{Behind}
use Rattle.forks.proofs.content.fill_fork.Given as goal

abbrev pub invariant-loop-part : goal.invariant-loop-part
invariant-loop-part l =
    (length l.image ≡ length l.fn.image) × (l.part-iterator.size ≡ l.size)
    × Behind l.fn.image l.start l.size l.image l.block.0 l.part-iterator.rest.now
    (put_content l.start l.size l.fn.image (chain_blocks (map_entry l.fn.image) l.blocks l.fn.first.0) l.offset l.bytes)
